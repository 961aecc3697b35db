-- The kinds of postings, and the byte that tells each in a record.
use Rattle.std.specs.Prelude.{ℕ, cond, Some, None, Option, ◌==◌}
use Rattle.posting.specs.declared.kind.Kind.{Kind}
use Rattle.posting.specs.declared.kind.Kind.TheVariants as kinds
use Rattle.posting.specs.declared.posting.Posting.{Posting}
use Rattle.posting.specs.declared.posting.Posting.TheVariants.{Opening, Schedule, Reading, Price, Figures, Settle, Reopen}

abbrev pub kind_of : Posting → Kind
kind_of (Opening o) = kinds.Opening
kind_of (Schedule e) = kinds.Schedule
kind_of (Reading e) = kinds.Reading
kind_of (Price period price) = kinds.Price
kind_of (Figures period f) = kinds.Figures
kind_of (Settle period) = kinds.Settle
kind_of (Reopen period) = kinds.Reopen

abbrev pub kind_byte : Kind → ℕ
kind_byte kinds.Opening = 0
kind_byte kinds.Schedule = 1
kind_byte kinds.Reading = 2
kind_byte kinds.Price = 3
kind_byte kinds.Figures = 4
kind_byte kinds.Settle = 5
kind_byte kinds.Reopen = 6

-- the kind that a byte tells, if it tells one
abbrev pub kind_told : ℕ → Option Kind
kind_told byte =
    cond (byte == 0) (Some kinds.Opening)
    (cond (byte == 1) (Some kinds.Schedule)
    (cond (byte == 2) (Some kinds.Reading)
    (cond (byte == 3) (Some kinds.Price)
    (cond (byte == 4) (Some kinds.Figures)
    (cond (byte == 5) (Some kinds.Settle)
    (cond (byte == 6) (Some kinds.Reopen) None))))))
