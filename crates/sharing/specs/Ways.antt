-- Ways of sharing an amount out among members, by what each has: what every way owes.
use Rattle.std.specs.Prelude.{◌≡◌, ℕ, ◌≤◌, List, length, sum, slice_index}
use Rattle.sharing.specs.Verdict.{most_members, rest_limit}

-- as many members, each with as little, as in rests that a rule accepts
pub record Modest (have : List ℕ) : Type 0 where
  pub few : length have ≤ most_members
  pub small : (i : ℕ) → slice_index have i ≤ rest_limit

-- nobody gets more than he has, and together they get the amount
pub record SharedOut (amount : ℕ) (have get : List ℕ) : Type 0 where
  pub same_length : length get ≡ length have
  pub within_own : (i : ℕ) → slice_index get i ≤ slice_index have i
  pub whole : sum get ≡ amount
