-- The four stages in which the price of a quarter of an hour is found.
-- Where the system has a surplus, downward activations and bids count, and candidates go down from the index and from zero;
-- where it has a shortage, upward ones count, and candidates go up.
use Rattle.std.specs.Prelude.{ℕ, zero, suc, ◌+◌, ◌*◌, max, Bool, cond, ℤ, pos, negsuc, ◌+ℤ◌, ◌*ℤ◌, neg_ℤ, Some, None, Ok, Err, Option, Result, ◌==◌, nat_lt, unsigned_abs}
use Rattle.refusal.specs.declared.reason.Reason.{Reason}
use Rattle.refusal.specs.declared.reason.Reason.TheVariants.{NoBase}
use Rattle.pricing.specs.declared.figures.Activation.{Activation}
use Rattle.pricing.specs.declared.figures.Activations.{Activations}
use Rattle.pricing.specs.declared.figures.SystemFigures.{SystemFigures}
use Rattle.pricing.specs.declared.fraction.Fraction.{Fraction}
use Rattle.pricing.specs.declared.derivation.Side.{Side}
use Rattle.pricing.specs.declared.derivation.Side.TheVariants.{Surplus, Shortage}
use Rattle.pricing.specs.declared.derivation.Origin.TheVariants.{Mean, Bid}
use Rattle.pricing.specs.declared.derivation.Base.{Base}
use Rattle.pricing.specs.declared.derivation.Candidates.{Candidates}
use Rattle.pricing.specs.declared.derivation.Stage.TheVariants.{First, Second, Third}
use Rattle.pricing.specs.declared.derivation.Candidate.{Candidate}
use Rattle.pricing.specs.Limits.{large_imbalance, least_margin}
use Rattle.pricing.specs.Fractions.{◌over◌, at_most}

-- ---- the side that the system is on

abbrev pub side_of : ℤ → Option Side
side_of (pos zero) = None
side_of (pos (suc kwh)) = Some Surplus
side_of (negsuc kwh) = Some Shortage

abbrev pub activations_on : Side → SystemFigures → Activations
activations_on Surplus f = f.downward
activations_on Shortage f = f.upward

abbrev pub bid_on : Side → SystemFigures → Option ℤ
bid_on Surplus f = f.downward_bid
bid_on Shortage f = f.upward_bid

-- down at a surplus, up at a shortage
abbrev pub toward : Side → ℕ → ℤ
toward Surplus amount = neg_ℤ (pos amount)
toward Shortage amount = pos amount

-- ---- first: the mean price of what was activated, weighted by energy; if nothing was, the bid; and this is the base

abbrev pub activated_kwh : Activations → ℕ
activated_kwh a = a.automatic.kwh + (a.manual.kwh + a.replacement.kwh)

abbrev pub cost : Activation → ℤ
cost a = a.price *ℤ pos a.kwh

abbrev pub activated_cost : Activations → ℤ
activated_cost a = cost a.automatic +ℤ (cost a.manual +ℤ cost a.replacement)

abbrev pub mean : Activations → Base
mean a = record { origin = Mean; value = activated_cost a over activated_kwh a }

abbrev pub bid_alone : Option ℤ → Result Base Reason
bid_alone None = Err NoBase
bid_alone (Some price) = Ok (record { origin = Bid; value = price over 1 })

abbrev pub base_of : Activations → Option ℤ → Result Base Reason
base_of activations bid = cond (activated_kwh activations == 0) (bid_alone bid) (Ok (mean activations))

-- ---- second: the index, and on the side's way a margin of a quarter of its size, but at least 1,000

abbrev pub margin_quarters : ℤ → ℕ
margin_quarters index = max (unsigned_abs index) (4 * least_margin)

abbrev pub beside_index : Side → ℤ → Fraction
beside_index side index = (pos 4 *ℤ index +ℤ toward side (margin_quarters index)) over 4

-- ---- third: only if the imbalance exceeds 50,000 kWh, the base's size times the imbalance over 50,000

abbrev pub scaled : Side → ℕ → Fraction → Fraction
scaled side kwh base = toward side (kwh * unsigned_abs base.numerator) over (large_imbalance * base.denominator)

abbrev pub scaled_if_large : Side → ℕ → Fraction → Option Fraction
scaled_if_large side kwh base = cond (nat_lt large_imbalance kwh) (Some (scaled side kwh base)) None

-- ---- fourth: of the candidates the least at a surplus, the greatest at a shortage; of equal ones the earliest

abbrev pub candidates_of : Side → ℕ → ℤ → Base → Candidates
candidates_of side kwh index base =
    record { base = base; index = beside_index side index; scaled = scaled_if_large side kwh base.value }

abbrev pub goes_first : Side → Fraction → Fraction → Bool
goes_first Surplus p q = at_most p q
goes_first Shortage p q = at_most q p

abbrev pub preferred : Side → Candidate → Candidate → Candidate
preferred side p q = cond (goes_first side p.value q.value) p q

abbrev pub against_third : Side → Candidate → Option Fraction → Candidate
against_third side p None = p
against_third side p (Some q) = preferred side p (record { stage = Third; value = q })

abbrev pub decisive : Side → Candidates → Candidate
decisive side c =
    against_third side
    (preferred side (record { stage = First; value = c.base.value }) (record { stage = Second; value = c.index }))
    c.scaled
