-- What an energy book means, and what a posting does to it. Every book, however it stores its cells, is described by this.
use Rattle.std.specs.Prelude.{◌≡◌, ℕ, ◌-◌, ◌≤◌, Bool, false, cond, not, ◌&&◌, is_some, is_ok, Some, None, Ok, Err, Option, Result, ◌==◌, nat_le, nat_lt}
use Rattle.std.specs.Option.{unwrap_or}
use Rattle.charging.specs.Limits.{energy_limit}
use Rattle.refusal.specs.declared.layer.Layer.{Layer}
use Rattle.refusal.specs.declared.layer.Layer.TheVariants.{Book}
use Rattle.refusal.specs.declared.reason.Reason.TheVariants.{NoSuchPeriod, NoSuchLine, Sealed, AboveCeiling, Full}
use Rattle.refusal.specs.declared.refused.Refusal.{Refusal}
use Rattle.refusal.specs.Numbers.{at_cell}
use Rattle.energy.specs.Limits.{WithinLimits}

pub record Meaning : Type 0 where
  pub lines : ℕ
  pub periods : ℕ
  -- the kWh of a line in a period; none where the cell is empty or outside the book
  pub cell : ℕ → ℕ → Option ℕ
  -- the most kWh that a line takes, and the layer that refuses more
  pub ceiling : ℕ → ℕ
  pub ceiling_layer : ℕ → ℕ → Layer
  -- whether a line is sealed in a period, and the layer that refuses it then
  pub sealed : ℕ → ℕ → Bool
  pub seal_layer : ℕ → ℕ → Layer
  -- how many empty cells may still be filled
  pub spare : ℕ

abbrev pub inside : Meaning → ℕ → ℕ → Bool
inside m line period = nat_lt line m.lines && nat_lt period m.periods

-- what every book owes
pub record Lawful (m : Meaning) : Type 0 where
  pub size : WithinLimits m.lines m.periods
  pub small_cells : (line period : ℕ) → unwrap_or (m.cell line period) 0 ≤ energy_limit
  pub empty_outside : (line period : ℕ) → inside m line period ≡ false → m.cell line period ≡ None
  pub low_ceilings : (line : ℕ) → m.ceiling line ≤ energy_limit

-- what a book tells of its ceilings and seals: nothing outside
abbrev pub ceiling_told : Meaning → ℕ → Option ℕ
ceiling_told m line = cond (nat_lt line m.lines) (Some (m.ceiling line)) None

abbrev pub seal_told : Meaning → ℕ → ℕ → Option Bool
seal_told m line period = cond (inside m line period) (Some (m.sealed line period)) None

-- the answer to a posting, by the lowest number that holds
abbrev pub book_verdict : Meaning → ℕ → ℕ → ℕ → Result (Unit {0}) Refusal
book_verdict m line period kwh =
    cond (nat_le m.periods period) (Err (at_cell NoSuchPeriod Book line period))
    (cond (nat_le m.lines line) (Err (at_cell NoSuchLine Book line period))
    (cond (m.sealed line period) (Err (at_cell Sealed (m.seal_layer line period) line period))
    (cond (nat_lt (m.ceiling line) kwh) (Err (at_cell AboveCeiling (m.ceiling_layer line kwh) line period))
    (cond (not (is_some (m.cell line period)) && m.spare == 0) (Err (at_cell Full Book line period))
    (Ok tt)))))

-- cells of which one is replaced
abbrev pub with_cell : (ℕ → ℕ → Option ℕ) → ℕ → ℕ → ℕ → ℕ → ℕ → Option ℕ
with_cell cells line period kwh l p = cond (l == line && p == period) (Some kwh) (cells l p)

-- a book that has accepted a posting: the cell is replaced, and takes one from spare if it was empty
abbrev pub posted : Meaning → ℕ → ℕ → ℕ → Meaning
posted m line period kwh = record {
  lines = m.lines;
  periods = m.periods;
  cell = with_cell m.cell line period kwh;
  ceiling = m.ceiling;
  ceiling_layer = m.ceiling_layer;
  sealed = m.sealed;
  seal_layer = m.seal_layer;
  spare = cond (is_some (m.cell line period)) m.spare (m.spare - 1);
}

-- a book after a posting: a refused one changes nothing
abbrev pub book_outcome : Meaning → ℕ → ℕ → ℕ → Meaning
book_outcome m line period kwh = cond (is_ok (book_verdict m line period kwh)) (posted m line period kwh) m
