-- What a file of postings holds: its postings, each with the place of its record, and the refusal that ends them, if one does.
use Rattle.std.specs.Prelude.{ℕ, zero, suc, ◌+◌, ◌-◌, Bool, true, false, cond, not, List, [], ◌∷◌, length, drop, Some, None, Ok, Err, Option, Result, ◌==◌}
use Rattle.refusal.specs.declared.layer.Layer.TheVariants.{File}
use Rattle.refusal.specs.declared.reason.Reason.TheVariants.{UnknownVersion}
use Rattle.refusal.specs.declared.refused.Refusal.{Refusal}
use Rattle.refusal.specs.Numbers.{naming_nobody, at_place}
use Rattle.posting.specs.declared.file.Placed.{Placed}
use Rattle.posting.specs.declared.file.Postings.{Postings}
use Rattle.posting.specs.declared.file.Stage.{Stage}
use Rattle.posting.specs.declared.file.Stage.TheVariants.{Foreign, Unopened, Opened, Ended}
use Rattle.posting.specs.declared.posting.Posting.{Posting}
use Rattle.posting.specs.declared.posting.Posting.TheVariants.{Opening, Schedule, Reading, Price, Figures, Settle, Reopen}
use Rattle.posting.specs.declared.reader.Record.{Record}
use Rattle.posting.specs.Reading.{bad_record, record_in}

pub record Contents : Type 0 where
  pub postings : List Placed
  pub refusal : Option Refusal

abbrev pub nothing : Contents
nothing = record { postings = []; refusal = None }

abbrev pub stopped_by : Refusal → Contents
stopped_by refusal = record { postings = []; refusal = Some refusal }

abbrev pub followed_by : Placed → Contents → Contents
followed_by first rest = record { postings = first ∷ rest.postings; refusal = rest.refusal }

-- ---- one record after the other

-- the first posting is an opening, and no other
abbrev pub is_opening : Posting → Bool
is_opening (Opening o) = true
is_opening (Schedule e) = false
is_opening (Reading e) = false
is_opening (Price period price) = false
is_opening (Figures period figures) = false
is_opening (Settle period) = false
is_opening (Reopen period) = false

abbrev pub in_turn : Bool → Posting → Bool
in_turn opened p = cond opened (not (is_opening p)) (is_opening p)

-- the record that stands at a place, as it may be there
abbrev pub placed_record : Bool → ℕ → Result Record Refusal → Result Record Refusal
placed_record opened place (Ok r) = cond (in_turn opened r.posting) (Ok r) (Err (at_place bad_record place))
placed_record opened place (Err refusal) = Err (at_place refusal place)

abbrev pub then_from : ℕ → Result Record Refusal → (ℕ → Contents) → Contents
then_from place (Ok r) rest = followed_by (record { place = place; posting = r.posting }) (rest r.size)
then_from place (Err refusal) rest = stopped_by refusal

-- what stands in bytes of a file from a place on, behind so many that belong to the record before
abbrev pub contents_behind : ℕ → Bool → ℕ → List ℕ → Contents
contents_behind skip opened place [] = nothing
contents_behind (suc skip) opened place (byte ∷ bytes) = contents_behind skip opened (place + 1) bytes
contents_behind zero opened place (byte ∷ bytes) =
    then_from place (placed_record opened place (record_in (byte ∷ bytes))) (λ size. contents_behind (size - 1) true (place + 1) bytes)

abbrev pub contents_from : Bool → ℕ → List ℕ → Contents
contents_from opened place bytes = contents_behind 0 opened place bytes

-- ---- the file

abbrev pub unknown_version : Refusal
unknown_version = at_place (naming_nobody UnknownVersion File) 0

abbrev pub file_contents : List ℕ → Contents
file_contents [] = stopped_by unknown_version
file_contents (version ∷ records) = cond (version == 1) (contents_from false 1 records) (stopped_by unknown_version)

-- ---- step by step

-- what stands at the place that a walk over a file has come to
abbrev pub contents_here : Bool → Postings → Contents
contents_here opened walk = contents_from opened walk.place (drop walk.place walk.file.now)

abbrev pub left_at : Stage → Postings → Contents
left_at Foreign walk = stopped_by unknown_version
left_at Unopened walk = contents_here false walk
left_at Opened walk = contents_here true walk
left_at Ended walk = nothing

-- what a walk has yet to give
abbrev pub contents_left : Postings → Contents
contents_left walk = left_at walk.stage walk

abbrev pub first_of : List Placed → Option Refusal → Option (Result Placed Refusal)
first_of (first ∷ rest) refusal = Some (Ok first)
first_of [] (Some refusal) = Some (Err refusal)
first_of [] None = None

abbrev pub next_in : Contents → Option (Result Placed Refusal)
next_in c = first_of c.postings c.refusal

-- behind a refusal there is nothing
abbrev pub rest_of : List Placed → Option Refusal → Contents
rest_of (first ∷ rest) refusal = record { postings = rest; refusal = refusal }
rest_of [] refusal = nothing

abbrev pub after_next : Contents → Contents
after_next c = rest_of c.postings c.refusal

-- how many steps give something
abbrev pub refusals_in : Option Refusal → ℕ
refusals_in None = 0
refusals_in (Some refusal) = 1

abbrev pub steps_in : Contents → ℕ
steps_in c = length c.postings + refusals_in c.refusal
