-- What holds of each element of a list that is written place by place.
use Rattle.std.proofs.Common.{◌≡◌, ℕ, ◌<◌, ◌≤◌, List, length, get_or}

-- the first i places of a list changed by f, which is given the place and what stood there
pub record Partly {X : Type 0} (f : ℕ → X → X) (d : X) (before now : List X) (i : ℕ) : Type 0 where
  pub same_length : length now ≡ length before
  pub done : (k : ℕ) → k < i → get_or now k d ≡ f k (get_or before k d)
  pub left : (k : ℕ) → i ≤ k → get_or now k d ≡ get_or before k d
