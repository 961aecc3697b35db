-- How a posting is written: the one record of each posting.
use Rattle.std.specs.Prelude.{ℕ, ◌+◌, List, ◌∷◌, ◌++◌, length, ℤ, pos, Some, None, Option}
use Rattle.pricing.specs.declared.figures.Activation.{Activation}
use Rattle.pricing.specs.declared.figures.Activations.{Activations}
use Rattle.pricing.specs.declared.figures.SystemFigures.{SystemFigures}
use Rattle.std.specs.Option.{unwrap_or}
use Rattle.posting.specs.declared.posting.MemberEnergy.{MemberEnergy}
use Rattle.posting.specs.declared.posting.Opening.{Opening as OpeningFigures}
use Rattle.posting.specs.declared.posting.Posting.{Posting}
use Rattle.posting.specs.declared.posting.Posting.TheVariants.{Opening, Schedule, Reading, Price, Figures, Settle, Reopen}
use Rattle.posting.specs.Bytes.{two, four, eight, signed_four}
use Rattle.posting.specs.Kinds.{kind_of, kind_byte}

abbrev pub opening_fields : OpeningFigures → List ℕ
opening_fields o = o.members ∷ o.days ∷ (eight o.consumers ++ signed_four o.internal_price)

abbrev pub energy_fields : MemberEnergy → List ℕ
energy_fields e = e.member ∷ (two e.period ++ four e.kwh)

abbrev pub activation_fields : Activation → List ℕ
activation_fields a = four a.kwh ++ signed_four a.price

abbrev pub activations_fields : Activations → List ℕ
activations_fields a =
    activation_fields a.automatic ++ (activation_fields a.manual ++ activation_fields a.replacement)

-- a bid that is there counts in the flags; of one that is not, 0 is written
abbrev pub flag_of : ℕ → Option ℤ → ℕ
flag_of weight None = 0
flag_of weight (Some price) = weight

abbrev pub bid_or_zero : Option ℤ → ℤ
bid_or_zero bid = unwrap_or bid (pos 0)

abbrev pub bids_fields : Option ℤ → Option ℤ → List ℕ
bids_fields downward upward =
    (flag_of 1 downward + flag_of 2 upward) ∷ (signed_four (bid_or_zero downward) ++ signed_four (bid_or_zero upward))

abbrev pub figures_fields : SystemFigures → List ℕ
figures_fields f =
    signed_four f.imbalance_kwh ++ (activations_fields f.downward ++ (activations_fields f.upward
    ++ (bids_fields f.downward_bid f.upward_bid ++ signed_four f.index)))

abbrev pub fields_of : Posting → List ℕ
fields_of (Opening o) = opening_fields o
fields_of (Schedule e) = energy_fields e
fields_of (Reading e) = energy_fields e
fields_of (Price period price) = two period ++ signed_four price
fields_of (Figures period f) = two period ++ figures_fields f
fields_of (Settle period) = two period
fields_of (Reopen period) = two period

-- the byte of the kind, then the fields
abbrev pub body_of : Posting → List ℕ
body_of p = kind_byte (kind_of p) ∷ fields_of p

-- the longest body: that of system figures
abbrev pub longest_body : ℕ
longest_body = 68

-- the length of a body, then the body
abbrev pub framed : List ℕ → List ℕ
framed body = two (length body) ++ body

abbrev pub encoded : Posting → List ℕ
encoded p = framed (body_of p)
