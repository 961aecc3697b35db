-- The law that every sharing rule owes, for every set and every list of rests that it accepts.
use Rattle.std.specs.Prelude.{◌≡◌, ℕ, ◌<◌, false, ◌⊎◌, List, length, ℤ, pos, ◌≤ℤ◌, slice_index_or}
use Rattle.sharing.specs.Rests.{in_set, total}

-- a new rest lies from zero to the old one
abbrev pub FromZeroTo : ℤ → ℤ → Type 0
FromZeroTo old new = ((pos 0 ≤ℤ new) × (new ≤ℤ old)) ⊎ ((old ≤ℤ new) × (new ≤ℤ pos 0))

-- what a rule may make of the rests before
pub record Lawful (set : ℕ) (before after : List ℤ) : Type 0 where
  pub same_length : length after ≡ length before
  pub outside_kept : (i : ℕ) → i < length before → in_set set i ≡ false → slice_index_or after i (pos 0) ≡ slice_index_or before i (pos 0)
  pub toward_zero : (i : ℕ) → i < length before → FromZeroTo (slice_index_or before i (pos 0)) (slice_index_or after i (pos 0))
  pub same_total : total after ≡ total before
