-- What a call of two rules, one after the other, answers and leaves.
use Rattle.std.specs.Prelude.{◌≡◌, List, ℤ, Ok}
use Rattle.sharing.specs.Verdict.{verdict, outcome}

-- two rules, one after the other
module _ (f g : List ℤ → List ℤ) (xs ys zs : List ℤ) (first : ys ≡ outcome f xs) (second : zs ≡ outcome g ys) (ok : verdict xs ≡ Ok tt) (ok' : verdict (f xs) ≡ Ok tt) where
  pub then_after : zs ≡ outcome (λ vs. g (f vs)) xs
  then_after = cc

  pub then_answer : verdict ys ≡ verdict xs
  then_answer = cc
