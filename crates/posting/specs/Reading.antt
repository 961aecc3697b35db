-- What some bytes say: the posting whose record stands at their front, or why there is none.
use Rattle.std.specs.Prelude.{ℕ, zero, suc, ◌+◌, ◌≡◌, ◌≤◌, ◌/◌, ◌%◌, Bool, true, false, cond, List, [], ◌∷◌, length, take, drop, ℤ, pos, negsuc, Some, None, Ok, Err, Option, Result, ◌==◌, nat_le}
use Rattle.pricing.specs.declared.figures.Activation.{Activation}
use Rattle.pricing.specs.declared.figures.Activations.{Activations}
use Rattle.pricing.specs.declared.figures.SystemFigures.{SystemFigures}
use Rattle.refusal.specs.declared.layer.Layer.TheVariants.{File}
use Rattle.refusal.specs.declared.reason.Reason.TheVariants.{CutShort, BadRecord}
use Rattle.refusal.specs.declared.refused.Refusal.{Refusal}
use Rattle.refusal.specs.Numbers.{naming_nobody}
use Rattle.std.specs.Option.{option_map, option_and_then}
use Rattle.posting.specs.declared.kind.Kind.{Kind}
use Rattle.posting.specs.declared.kind.Kind.TheVariants as kinds
use Rattle.posting.specs.declared.posting.MemberEnergy.{MemberEnergy}
use Rattle.posting.specs.declared.posting.Opening.{Opening as OpeningFigures}
use Rattle.posting.specs.declared.posting.Posting.{Posting}
use Rattle.posting.specs.declared.posting.Posting.TheVariants.{Opening, Schedule, Reading, Price, Figures, Settle, Reopen}
use Rattle.posting.specs.declared.reader.Record.{Record}
use Rattle.posting.specs.Bytes.{byte_at, two_at, four_at, eight_at, signed_at}
use Rattle.posting.specs.Kinds.{kind_told}

-- ---- the fields of each kind, where there are as many bytes as they take

abbrev pub if_long : {X : Type 0} → ℕ → List ℕ → X → Option X
if_long size fields x = cond (length fields == size) (Some x) None

abbrev pub opening_at : List ℕ → OpeningFigures
opening_at fields = record {
  members = byte_at fields 0;
  days = byte_at fields 1;
  consumers = eight_at fields 2;
  internal_price = signed_at fields 10;
}

abbrev pub opening_in : List ℕ → Option OpeningFigures
opening_in fields = if_long 14 fields (opening_at fields)

abbrev pub energy_at : List ℕ → MemberEnergy
energy_at fields = record { member = byte_at fields 0; period = two_at fields 1; kwh = four_at fields 3 }

abbrev pub energy_in : List ℕ → Option MemberEnergy
energy_in fields = if_long 7 fields (energy_at fields)

abbrev pub price_in : List ℕ → Option Posting
price_in fields = if_long 6 fields (Price (two_at fields 0) (signed_at fields 2))

abbrev pub period_in : List ℕ → Option ℕ
period_in fields = if_long 2 fields (two_at fields 0)

-- ---- system figures

abbrev pub activation_at : List ℕ → ℕ → Activation
activation_at fields place = record { kwh = four_at fields place; price = signed_at fields (place + 4) }

abbrev pub activations_at : List ℕ → ℕ → Activations
activations_at fields place = record {
  automatic = activation_at fields place;
  manual = activation_at fields (place + 8);
  replacement = activation_at fields (place + 16);
}

-- bytes of which the first so many say x, and the rest behind them
pub record Splits {X : Type 0} (bytes : List ℕ) (size : ℕ) (said x : X) (rest : List ℕ) : Type 0 where
  pub value : x ≡ said
  pub behind : rest ≡ drop size bytes
  pub within : size ≤ length bytes

-- a bid that is not flagged is absent, and then only 0 may stand in its place
abbrev pub bid_in : Bool → ℤ → Option (Option ℤ)
bid_in true price = Some (Some price)
bid_in false (pos zero) = Some None
bid_in false (pos (suc n)) = None
bid_in false (negsuc n) = None

abbrev pub both : {X Y : Type 0} → Option X → Option Y → Option (X × Y)
both None y = None
both (Some x) None = None
both (Some x) (Some y) = Some (x, y)

-- the downward and the upward bid: of the flags, 1 is for the first and 2 for the second
abbrev pub bids_in : ℕ → ℤ → ℤ → Option (Option ℤ × Option ℤ)
bids_in flags downward upward =
    cond (nat_le flags 3) (both (bid_in (flags % 2 == 1) downward) (bid_in (flags / 2 == 1) upward)) None

abbrev pub figures_at : List ℕ → Option ℤ → Option ℤ → SystemFigures
figures_at fields downward upward = record {
  imbalance_kwh = signed_at fields 2;
  downward = activations_at fields 6;
  upward = activations_at fields 30;
  downward_bid = downward;
  upward_bid = upward;
  index = signed_at fields 63;
}

abbrev pub figures_in : List ℕ → Option Posting
figures_in fields =
    cond (length fields == 67)
    (option_map (λ bids. Figures (two_at fields 0) (figures_at fields bids.0 bids.1))
    (bids_in (byte_at fields 54) (signed_at fields 55) (signed_at fields 59)))
    None

-- ---- the body

abbrev pub fields_in : Kind → List ℕ → Option Posting
fields_in kinds.Opening fields = option_map Opening (opening_in fields)
fields_in kinds.Schedule fields = option_map Schedule (energy_in fields)
fields_in kinds.Reading fields = option_map Reading (energy_in fields)
fields_in kinds.Price fields = price_in fields
fields_in kinds.Figures fields = figures_in fields
fields_in kinds.Settle fields = option_map Settle (period_in fields)
fields_in kinds.Reopen fields = option_map Reopen (period_in fields)

abbrev pub posting_in : List ℕ → Option Posting
posting_in [] = None
posting_in (byte ∷ fields) = option_and_then (λ kind. fields_in kind fields) (kind_told byte)

-- ---- the record

abbrev pub cut_short : Refusal
cut_short = naming_nobody CutShort File

abbrev pub bad_record : Refusal
bad_record = naming_nobody BadRecord File

-- how many bytes the record takes whose body's length the first two bytes tell
abbrev pub record_size : List ℕ → ℕ
record_size bytes = 2 + two_at bytes 0

abbrev pub sized : ℕ → Option Posting → Result Record Refusal
sized size None = Err bad_record
sized size (Some p) = Ok (record { posting = p; size = size })

-- nothing is said of a body that is not all there
abbrev pub record_in : List ℕ → Result Record Refusal
record_in bytes =
    cond (nat_le (record_size bytes) (length bytes))
    (sized (record_size bytes) (posting_in (take (two_at bytes 0) (drop 2 bytes))))
    (Err cut_short)
