-- A list of a set's energies and shares of it are modest, and the loop that takes netted energy off the rests does so.
use Rattle.std.specs.Prelude.{◌≡◌, ℕ, ◌+◌, ◌≤◌, List, length, drop, ℤ, pos, Ok, slice_index, slice_index_or}
use Rattle.std.proofs.Common.{ap, ◌∙◌, arith}
use Rattle.std.proofs.lemmas.List.{get_or-drop}
use Rattle.sharing.specs.declared.side.Side.{Side}
use Rattle.sharing.specs.Ways.{Modest, SharedOut}
use Rattle.sharing.specs.Rests.{energies}
use Rattle.sharing.specs.Verdict.{rest_limit, verdict}
use Rattle.sharing.specs.Kept.Energies.{energies_modest, same_long}

-- a list of them, and shares of it
module _ (d : Side) (s : ℕ) (xs : List ℤ) (own : List ℕ) (is : own ≡ energies d s xs) (ok : verdict xs ≡ Ok tt) where
  pub listed_modest : Modest own
  listed_modest = rw is (energies_modest d s xs ok)

  pub shares_long : (n : ℕ) (get shares : List ℕ) → get ≡ shares → SharedOut n own shares → length get ≡ length xs
  shares_long n get shares e p = ap length e ∙ p.same_length ∙ ap length is ∙ same_long d s xs

  pub shares_small : (n : ℕ) (get shares : List ℕ) → get ≡ shares → SharedOut n own shares → (k : ℕ) → slice_index get k ≤ rest_limit
  shares_small n get shares e p k = rw e (omega (arith, p.within_own k, listed_modest.small k))

-- the loop that takes them off: what is left of the rests is as it was
pub same_element : (ys xs : List ℤ) (i : ℕ) → drop i ys ≡ drop i xs → slice_index_or ys i (pos 0) ≡ slice_index_or xs i (pos 0)
same_element ys xs i e =
    let a = get_or-drop i ys 0 (pos 0) in
    let b = get_or-drop i xs 0 (pos 0) in
    let z : i + 0 ≡ i = omega arith in
    cc
