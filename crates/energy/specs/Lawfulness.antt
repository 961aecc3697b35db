-- A layer leaves a book lawful. The proofs stand with the definitions, since the code of a layer hands them out.
use Rattle.std.specs.Prelude.{ℕ, ◌≤◌, min, List, slice_index}
use Rattle.std.proofs.Common.{arith}
use Rattle.charging.specs.Limits.{energy_limit}
use Rattle.energy.specs.Meaning.{Meaning, Lawful}
use Rattle.energy.specs.Layers.{under_ceilings, under_seals}

pub ceilings_lawful : (own : List ℕ) (m : Meaning) → Lawful m → Lawful (under_ceilings own m)
ceilings_lawful own m law = record {
  size = law.size;
  small_cells = law.small_cells;
  empty_outside = law.empty_outside;
  low_ceilings = λ line. lower (m.ceiling line) (slice_index own line) (law.low_ceilings line);
}
  where
    lower : (a b : ℕ) → a ≤ energy_limit → min a b ≤ energy_limit
    lower a b low = omega arith

pub seals_lawful : (days : ℕ) (m : Meaning) → Lawful m → Lawful (under_seals days m)
seals_lawful days m law =
    record { size = law.size; small_cells = law.small_cells; empty_outside = law.empty_outside; low_ceilings = law.low_ceilings }
