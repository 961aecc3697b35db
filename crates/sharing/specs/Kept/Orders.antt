-- Shares in member order are shared out as they should be.
use Rattle.std.specs.Prelude.{◌≡◌, ℕ, zero, suc, ◌-◌, ◌≤◌, min, List, [], ◌∷◌, length, sum, slice_index, refl}
use Rattle.std.proofs.Common.{ap, arith}
use Rattle.sharing.specs.InOrder.{shares_in_order}
use Rattle.sharing.specs.Ways.{SharedOut}
use Rattle.sharing.specs.Kept.Amounts.{sum_cons}

order_length : (n : ℕ) (xs : List ℕ) → length (shares_in_order n xs) ≡ length xs
order_length n [] = refl
order_length n (x ∷ xs) = ap suc (order_length (n - x) xs)

order_within : (n : ℕ) (xs : List ℕ) (i : ℕ) → slice_index (shares_in_order n xs) i ≤ slice_index xs i
order_within n [] i = omega arith
order_within n (x ∷ xs) zero = omega arith
order_within n (x ∷ xs) (suc i) = order_within (n - x) xs i

order_sum : (n : ℕ) (xs : List ℕ) → sum (shares_in_order n xs) ≡ min n (sum xs)
order_sum n [] = omega arith
order_sum n (x ∷ xs) =
    omega (arith, sum_cons x xs, sum_cons (min x n) (shares_in_order (n - x) xs), order_sum (n - x) xs)

pub order_shared_out : (n : ℕ) (xs : List ℕ) → n ≤ sum xs → SharedOut n xs (shares_in_order n xs)
order_shared_out n xs h = record {
  same_length = order_length n xs;
  within_own = order_within n xs;
  whole = omega (arith, order_sum n xs);
}
