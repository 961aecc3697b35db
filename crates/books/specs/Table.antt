-- The table book: one number for each cell, line after line.
use Rattle.std.specs.Prelude.{ℕ, ◌+◌, ◌*◌, Bool, cond, ◌&&◌, List, length, replicate, Some, None, Ok, Err, count_by, Option, Result, ◌==◌, nat_lt, slice_index_or}
use Rattle.charging.specs.Limits.{energy_limit}
use Rattle.refusal.specs.declared.layer.Layer.TheVariants.{Book}
use Rattle.refusal.specs.declared.reason.Reason.TheVariants.{OutsideLimits, WrongLength}
use Rattle.refusal.specs.declared.refused.Refusal.{Refusal}
use Rattle.refusal.specs.Numbers.{naming_nobody}
use Rattle.energy.specs.Limits.{within_limits}
use Rattle.energy.specs.Meaning.{Meaning}
use Rattle.books.specs.Plain.{plain, fresh, no_book}

-- what is written for an empty cell
abbrev pub empty_mark : ℕ
empty_mark = 4294967295

-- whatever is more than a cell may hold is read as empty
abbrev pub vacant : ℕ → Bool
vacant number = nat_lt energy_limit number

abbrev pub kwh_in : ℕ → Option ℕ
kwh_in number = cond (vacant number) None (Some number)

abbrev pub table_cell : ℕ → ℕ → List ℕ → ℕ → ℕ → Option ℕ
table_cell lines periods memory line period =
    cond (nat_lt line lines && nat_lt period periods) (kwh_in (slice_index_or memory (line * periods + period) empty_mark)) None

-- a table in memory that fits it; spare counts the empty cells
abbrev pub table_in : ℕ → ℕ → List ℕ → Meaning
table_in lines periods memory = plain lines periods (count_by vacant memory) (table_cell lines periods memory)

abbrev pub fits_table : ℕ → ℕ → ℕ → Bool
fits_table lines periods size = within_limits lines periods && size == lines * periods

abbrev pub table : ℕ → ℕ → List ℕ → Meaning
table lines periods memory = cond (fits_table lines periods (length memory)) (table_in lines periods memory) no_book

-- the check before a table is made in memory of some size
abbrev pub table_check : ℕ → ℕ → ℕ → Result (Unit {0}) Refusal
table_check lines periods size =
    cond (within_limits lines periods)
    (cond (size == lines * periods) (Ok tt) (Err (naming_nobody WrongLength Book)))
    (Err (naming_nobody OutsideLimits Book))

-- the book that is made, and what its memory holds then: nothing is written where the check refuses
abbrev pub table_made : ℕ → ℕ → ℕ → Meaning
table_made lines periods size = cond (fits_table lines periods size) (fresh lines periods size) no_book

abbrev pub table_memory : ℕ → ℕ → List ℕ → List ℕ
table_memory lines periods memory = cond (fits_table lines periods (length memory)) (replicate (length memory) empty_mark) memory
