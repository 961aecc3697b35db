-- What an accepted call leaves.
use Rattle.std.specs.Prelude.{◌≡◌, List, ℤ, Ok, Err, Result, OnOk}
use Rattle.std.proofs.Common.{sym, subst}
use Rattle.refusal.specs.declared.refused.Refusal.{Refusal}
use Rattle.sharing.specs.Verdict.{verdict, outcome}

-- what holds of the meaning at accepted rests holds of what an accepted call leaves
pub made_of_outcome : (P : List ℤ → Type 0) (f : List ℤ → List ℤ) (xs zs : List ℤ) (r : Result Unit Refusal)
    → r ≡ verdict xs → zs ≡ outcome f xs → (verdict xs ≡ Ok tt → P (f xs)) → OnOk r (P zs)
made_of_outcome P f xs zs (Ok x) e z h = let o : f xs ≡ zs = cc in subst P o (h (sym e))
made_of_outcome P f xs zs (Err y) e z h = tt
