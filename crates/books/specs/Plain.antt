-- Books with no layer over them.
use Rattle.std.specs.Prelude.{ℕ, Bool, true, false, cond, ◌&&◌, Some, None, Ok, Err, Option, Result, nat_le, nat_lt}
use Rattle.charging.specs.Limits.{energy_limit}
use Rattle.refusal.specs.declared.layer.Layer.TheVariants.{Book}
use Rattle.refusal.specs.declared.reason.Reason.TheVariants.{NoSuchPeriod, NoSuchLine, AboveCeiling}
use Rattle.refusal.specs.declared.refused.Refusal.{Refusal}
use Rattle.refusal.specs.Numbers.{at_cell}
use Rattle.energy.specs.Meaning.{Meaning}
use Rattle.books.specs.declared.size.Size.{Size}

-- ceilings at the limit, and nothing sealed
abbrev pub plain : ℕ → ℕ → ℕ → (ℕ → ℕ → Option ℕ) → Meaning
plain lines periods spare cells = record {
  lines = lines;
  periods = periods;
  cell = cells;
  ceiling = λ _. energy_limit;
  ceiling_layer = λ _ _. Book;
  sealed = λ _ _. false;
  seal_layer = λ _ _. Book;
  spare = spare;
}

-- a new book: every cell is empty
abbrev pub fresh : ℕ → ℕ → ℕ → Meaning
fresh lines periods spare = plain lines periods spare (λ _ _. None)

-- what a call gives that could not make a book
abbrev pub no_book : Meaning
no_book = fresh 1 1 0

-- a book by its size, where it has one: one whose memory does not fit has none
abbrev pub sized : (ℕ → ℕ → Meaning) → Option Size → Meaning
sized book None = no_book
sized book (Some size) = book size.lines size.periods

-- whether the memory fits the size, where there is one
abbrev pub fits_if_any : (ℕ → ℕ → Bool) → Option Size → Bool
fits_if_any fits None = true
fits_if_any fits (Some size) = fits size.lines size.periods

abbrev pub in_size : ℕ → ℕ → ℕ → ℕ → Bool
in_size lines periods line period = nat_lt line lines && nat_lt period periods

-- what a book with no layer tells of a ceiling and of a seal, and answers to a posting but for the question of room
abbrev pub plain_ceiling : ℕ → ℕ → Option ℕ
plain_ceiling lines line = cond (nat_lt line lines) (Some energy_limit) None

abbrev pub plain_seal : ℕ → ℕ → ℕ → ℕ → Option Bool
plain_seal lines periods line period = cond (in_size lines periods line period) (Some false) None

abbrev pub plain_check : ℕ → ℕ → ℕ → ℕ → ℕ → Result (Unit {0}) Refusal
plain_check lines periods line period kwh =
    cond (nat_le periods period) (Err (at_cell NoSuchPeriod Book line period))
    (cond (nat_le lines line) (Err (at_cell NoSuchLine Book line period))
    (cond (nat_lt energy_limit kwh) (Err (at_cell AboveCeiling Book line period))
    (Ok tt)))
