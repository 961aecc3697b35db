-- Sums of modest energies are small.
use Rattle.std.specs.Prelude.{ℕ, suc, ◌*◌, ◌≤◌, List, [], ◌∷◌, length, sum, slice_index}
use Rattle.std.proofs.Common.{arith, mul-le-mul_right}
use Rattle.sharing.specs.Verdict.{rest_limit}
use Rattle.sharing.specs.Ways.{Modest}
use Rattle.sharing.specs.Kept.Amounts.{sum_cons}

sum_le : (m : ℕ) (xs : List ℕ) → ((i : ℕ) → slice_index xs i ≤ m) → sum xs ≤ length xs * m
sum_le m [] h = omega arith
sum_le m (x ∷ xs) h = omega (arith, sum_cons x xs, sum_le m xs (λ i. h (suc i)), h 0)

pub modest_sum : (xs : List ℕ) → Modest xs → sum xs ≤ 32000000
modest_sum xs h = omega (arith, sum_le rest_limit xs h.small, mul-le-mul_right rest_limit h.few)
