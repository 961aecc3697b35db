-- The price of a quarter of an hour, and how it came about.
use Rattle.std.specs.Prelude.{ℕ, cond, ℤ, Some, None, Ok, Err, Option, Result, unsigned_abs}
use Rattle.refusal.specs.declared.reason.Reason.{Reason}
use Rattle.refusal.specs.declared.reason.Reason.TheVariants.{FigureOutOfRange}
use Rattle.pricing.specs.declared.figures.SystemFigures.{SystemFigures}
use Rattle.pricing.specs.declared.derivation.Side.{Side}
use Rattle.pricing.specs.declared.derivation.Base.{Base}
use Rattle.pricing.specs.declared.derivation.Candidates.{Candidates}
use Rattle.pricing.specs.declared.derivation.Derivation.{Derivation}
use Rattle.pricing.specs.declared.derivation.Derivation.TheVariants.{Balanced, Decided}
use Rattle.pricing.specs.Limits.{figures_in_range}
use Rattle.pricing.specs.Fractions.{to_nearest}
use Rattle.pricing.specs.Stages.{side_of, activations_on, bid_on, base_of, candidates_of, decisive}

-- the decisive candidate is rounded, and nothing before it
abbrev pub decided : Side → ℕ → Candidates → Derivation
decided side kwh c = Decided side kwh c (decisive side c).stage (to_nearest (decisive side c).value)

abbrev pub on_base : Side → SystemFigures → Result Base Reason → Result Derivation Reason
on_base side f (Ok base) = Ok (decided side (unsigned_abs f.imbalance_kwh) (candidates_of side (unsigned_abs f.imbalance_kwh) f.index base))
on_base side f (Err reason) = Err reason

-- a system in balance has the index for its price, and needs no base
abbrev pub on_side : SystemFigures → Option Side → Result Derivation Reason
on_side f None = Ok (Balanced f.index)
on_side f (Some side) = on_base side f (base_of (activations_on side f) (bid_on side f))

abbrev pub derivation_of : SystemFigures → Result Derivation Reason
derivation_of f = cond (figures_in_range f) (on_side f (side_of f.imbalance_kwh)) (Err FigureOutOfRange)

abbrev pub price_in : Derivation → ℤ
price_in (Balanced price) = price
price_in (Decided side kwh candidates stage price) = price

abbrev pub price_if_any : Result Derivation Reason → Result ℤ Reason
price_if_any (Ok derivation) = Ok (price_in derivation)
price_if_any (Err reason) = Err reason

abbrev pub price_of : SystemFigures → Result ℤ Reason
price_of f = price_if_any (derivation_of f)
