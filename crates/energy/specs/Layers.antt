-- The layers over a book. A layer asks the book below first, so that the lower layer refuses where both would.
use Rattle.std.specs.Prelude.{ℕ, ◌/◌, ◌%◌, ◌^◌, min, Bool, cond, not, ◌&&◌, ◌||◌, List, Ok, Err, Result, ◌==◌, nat_le, nat_lt, slice_index}
use Rattle.charging.specs.Limits.{energy_limit}
use Rattle.refusal.specs.declared.layer.Layer.TheVariants.{Ceiling, Seal}
use Rattle.refusal.specs.declared.reason.Reason.TheVariants.{FigureOutOfRange, NoSuchLine, NoSuchPeriod}
use Rattle.refusal.specs.declared.refused.Refusal.{Refusal}
use Rattle.refusal.specs.Numbers.{naming_nobody, of_member, refused}
use Rattle.energy.specs.Limits.{most_lines, most_days, periods_per_day}
use Rattle.energy.specs.Meaning.{Meaning, inside}

-- A book under ceilings: of a line's own ceiling and the one below the smaller counts.
abbrev pub under_ceilings : List ℕ → Meaning → Meaning
under_ceilings own m = record {
  lines = m.lines;
  periods = m.periods;
  cell = m.cell;
  ceiling = λ line. min (m.ceiling line) (slice_index own line);
  ceiling_layer = λ line kwh. cond (nat_lt (m.ceiling line) kwh) (m.ceiling_layer line kwh) Ceiling;
  sealed = m.sealed;
  seal_layer = m.seal_layer;
  spare = m.spare;
}

-- whether only the layer's own ceiling is in the way of a posting
abbrev pub over_own : List ℕ → Meaning → ℕ → ℕ → ℕ → Bool
over_own own m line period kwh =
    (inside m line period && not (m.sealed line period)) && (nat_le kwh (m.ceiling line) && nat_lt (slice_index own line) kwh)

-- the answer to the setting of a ceiling; lines 2i and 2i + 1 are those of member i
abbrev pub ceiling_verdict : ℕ → ℕ → Result (Unit {0}) Refusal
ceiling_verdict line kwh =
    cond (nat_lt energy_limit kwh) (Err (refused (of_member (line / 2)) FigureOutOfRange Ceiling))
    (cond (nat_le most_lines line) (Err (refused (of_member (line / 2)) NoSuchLine Ceiling))
    (Ok tt))

-- A set of days is a number whose bit i is day i.
abbrev pub day_in : ℕ → ℕ → Bool
day_in days day = days / 2 ^ day % 2 == 1

-- A book under seals: a cell is sealed if its day is in the set, or if it is sealed below.
abbrev pub under_seals : ℕ → Meaning → Meaning
under_seals days m = record {
  lines = m.lines;
  periods = m.periods;
  cell = m.cell;
  ceiling = m.ceiling;
  ceiling_layer = m.ceiling_layer;
  sealed = λ line period. m.sealed line period || day_in days (period / periods_per_day);
  seal_layer = λ line period. cond (m.sealed line period) (m.seal_layer line period) Seal;
  spare = m.spare;
}

-- whether only the layer's own seal is in the way of a posting
abbrev pub sealed_own : ℕ → Meaning → ℕ → ℕ → Bool
sealed_own days m line period = (inside m line period && not (m.sealed line period)) && day_in days (period / periods_per_day)

-- the answer to the sealing of a day
abbrev pub seal_verdict : ℕ → Result (Unit {0}) Refusal
seal_verdict day = cond (nat_le most_days day) (Err (naming_nobody NoSuchPeriod Seal)) (Ok tt)

-- the set with a day in it
abbrev pub with_day : ℕ → ℕ → ℕ → Bool
with_day days day d = d == day || day_in days d
