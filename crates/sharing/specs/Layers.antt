-- The rule that nets nothing, and the layers over other rules. A rule here is what it makes of a set and a list of rests.
use Rattle.std.specs.Prelude.{ℕ, List, ℤ, bit_and}

-- every member settles his own imbalance
abbrev pub own_account : ℕ → List ℤ → List ℤ
own_account set rests = rests

-- a rule with the set cut to a fixed one
abbrev pub only_among : ℕ → (ℕ → List ℤ → List ℤ) → ℕ → List ℤ → List ℤ
only_among fixed rule set rests = rule (bit_and set fixed) rests

-- the second rule on the rests that the first left
abbrev pub first_then : (ℕ → List ℤ → List ℤ) → (ℕ → List ℤ → List ℤ) → ℕ → List ℤ → List ℤ
first_then first second set rests = second set (first set rests)
