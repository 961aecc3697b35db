-- What reading and writing keep, told by the encoding.
use Rattle.std.specs.Prelude.{◌≡◌, ℕ, ◌^◌, ◌<◌, cond, List, ◌++◌, length, drop, ℤ, Some, None, Ok, Err, Option, Result, FitsSigned, ◌≢◌, nat_le}
use Rattle.std.specs.Int.{w32}
use Rattle.pricing.specs.declared.figures.Activation.{Activation}
use Rattle.pricing.specs.declared.figures.Activations.{Activations}
use Rattle.pricing.specs.declared.figures.SystemFigures.{SystemFigures}
use Rattle.refusal.specs.declared.refused.Refusal.{Refusal}
use Rattle.posting.specs.declared.posting.MemberEnergy.{MemberEnergy}
use Rattle.posting.specs.declared.posting.Opening.{Opening as OpeningFigures}
use Rattle.posting.specs.declared.posting.Posting.{Posting}
use Rattle.posting.specs.declared.posting.Posting.TheVariants.{Opening, Schedule, Reading, Price, Figures, Settle, Reopen}
use Rattle.posting.specs.declared.reader.Record.{Record}
use Rattle.posting.specs.Encoding.{encoded}
use Rattle.posting.specs.Reading.{cut_short, bad_record, record_size, record_in}

-- ---- postings whose fields fit their bytes, as every value of the program's types does

-- a signed number of four bytes
abbrev pub FitsFour : ℤ → Type 0
FitsFour z = FitsSigned w32 z

pub record ProperOpening (o : OpeningFigures) : Type 0 where
  pub members : o.members < 2 ^ 8
  pub days : o.days < 2 ^ 8
  pub consumers : o.consumers < 2 ^ 64
  pub price : FitsFour o.internal_price

pub record ProperEnergy (e : MemberEnergy) : Type 0 where
  pub member : e.member < 2 ^ 8
  pub period : e.period < 2 ^ 16
  pub kwh : e.kwh < 2 ^ 32

pub record ProperActivation (a : Activation) : Type 0 where
  pub kwh : a.kwh < 2 ^ 32
  pub price : FitsFour a.price

pub record ProperActivations (a : Activations) : Type 0 where
  pub automatic : ProperActivation a.automatic
  pub manual : ProperActivation a.manual
  pub replacement : ProperActivation a.replacement

abbrev pub ProperBid : Option ℤ → Type 0
ProperBid None = Unit {0}
ProperBid (Some price) = FitsFour price

pub record ProperFigures (f : SystemFigures) : Type 0 where
  pub imbalance : FitsFour f.imbalance_kwh
  pub downward : ProperActivations f.downward
  pub upward : ProperActivations f.upward
  pub downward_bid : ProperBid f.downward_bid
  pub upward_bid : ProperBid f.upward_bid
  pub index : FitsFour f.index

abbrev pub Proper : Posting → Type 0
Proper (Opening o) = ProperOpening o
Proper (Schedule e) = ProperEnergy e
Proper (Reading e) = ProperEnergy e
Proper (Price period price) = (period < 2 ^ 16) × FitsFour price
Proper (Figures period f) = (period < 2 ^ 16) × ProperFigures f
Proper (Settle period) = period < 2 ^ 16
Proper (Reopen period) = period < 2 ^ 16

-- ---- reading

-- an accepted record is its posting's one writing, and no other posting has a writing that begins these bytes
pub record Accepts (bytes : List ℕ) (r : Record) : Type 0 where
  pub proper : Proper r.posting
  pub size : r.size ≡ length (encoded r.posting)
  pub writing : bytes ≡ encoded r.posting ++ drop r.size bytes
  pub sole : (p : Posting) (rest : List ℕ) → Proper p → bytes ≡ encoded p ++ rest → p ≡ r.posting

-- bytes are refused only where no posting's writing begins them: as cut short if the length or the body is not all there, else as
-- a bad record
pub record Refuses (bytes : List ℕ) (refusal : Refusal) : Type 0 where
  pub none : (p : Posting) (rest : List ℕ) → Proper p → bytes ≢ encoded p ++ rest
  pub reason : refusal ≡ cond (nat_le (record_size bytes) (length bytes)) bad_record cut_short

abbrev pub Reads : List ℕ → Result Record Refusal → Type 0
Reads bytes (Ok r) = Accepts bytes r
Reads bytes (Err refusal) = Refuses bytes refusal

-- ---- writing

-- a record that was written reads back as its posting, whatever lies behind it
abbrev pub ReadsBack : Posting → List ℕ → Result ℕ Refusal → Type 0
ReadsBack p buffer (Ok size) = record_in buffer ≡ Ok (record { posting = p; size = size })
ReadsBack p buffer (Err refusal) = Unit {0}
