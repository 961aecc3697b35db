-- The listed book: one entry for each filled cell, in a keyed list.
use Rattle.std.specs.Prelude.{ℕ, min, Bool, cond, ◌&&◌, Some, None, Ok, Err, Option, Result, nat_lt}
use Rattle.charging.specs.Limits.{energy_limit}
use Rattle.refusal.specs.declared.layer.Layer.TheVariants.{Book}
use Rattle.refusal.specs.declared.reason.Reason.TheVariants.{OutsideLimits, WrongLength}
use Rattle.refusal.specs.declared.refused.Refusal.{Refusal}
use Rattle.refusal.specs.Numbers.{naming_nobody}
use Rattle.keyed.specs.Contents.{Contents, fits_list}
use Rattle.books.specs.declared.cell.Cell.{Cell}
use Rattle.energy.specs.Limits.{within_limits}
use Rattle.energy.specs.Meaning.{Meaning}
use Rattle.books.specs.Plain.{plain, fresh, no_book}

-- no cell holds more than it may
abbrev pub cut : Option ℕ → Option ℕ
cut (Some kwh) = Some (min kwh energy_limit)
cut None = None

abbrev pub listed_cell : ℕ → ℕ → (Cell → Option ℕ) → ℕ → ℕ → Option ℕ
listed_cell lines periods under line period =
    cond (nat_lt line lines && nat_lt period periods) (cut (under (record { line = line; period = period }))) None

-- a book whose list holds these contents: spare counts the unused entries
abbrev pub listed_in : ℕ → ℕ → Contents Cell ℕ → Meaning
listed_in lines periods held = plain lines periods held.spare (listed_cell lines periods held.under)

abbrev pub fits_listed : ℕ → ℕ → ℕ → Bool
fits_listed lines periods size = within_limits lines periods && fits_list size

abbrev pub listed : ℕ → ℕ → ℕ → Contents Cell ℕ → Meaning
listed lines periods size held = cond (fits_listed lines periods size) (listed_in lines periods held) no_book

-- the check before a listed book is made in memory of some size
abbrev pub listed_check : ℕ → ℕ → ℕ → Result (Unit {0}) Refusal
listed_check lines periods size =
    cond (within_limits lines periods)
    (cond (fits_list size) (Ok tt) (Err (naming_nobody WrongLength Book)))
    (Err (naming_nobody OutsideLimits Book))

-- the book that is made
abbrev pub listed_made : ℕ → ℕ → ℕ → Meaning
listed_made lines periods size = cond (fits_listed lines periods size) (fresh lines periods size) no_book
