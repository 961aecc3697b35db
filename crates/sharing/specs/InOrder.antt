-- The rule that nets in member order, each member all he has while the amount lasts.
use Rattle.std.specs.Prelude.{ℕ, ◌-◌, min, List, [], ◌∷◌, ℤ}
use Rattle.sharing.specs.Netting.{netting}

-- each the smaller of what he has and what is left of the amount
abbrev pub shares_in_order : ℕ → List ℕ → List ℕ
shares_in_order amount [] = []
shares_in_order amount (x ∷ have) = min x amount ∷ shares_in_order (amount - x) have

-- what the rule makes of a set and a list of rests
abbrev pub in_order : ℕ → List ℤ → List ℤ
in_order set rests = netting shares_in_order set rests
