-- Shares in proportion are shared out as they should be.
use Rattle.std.specs.Prelude.{◌≡◌, ℕ, zero, suc, ◌+◌, ◌-◌, ◌*◌, ◌/◌, ◌≤◌, List, [], ◌∷◌, length, sum, slice_index, refl}
use Rattle.std.proofs.Common.{ap, arith, mul-div_cancel, mul-add, mul-le-mul_right, le-div_iff_mul-le, div-mul-le_self, le_trans, add-zero, zero-add, mul-zero}
use Rattle.std.proofs.Math.Nat.{div-zero, zero-div, add-mul-div_left}
use Rattle.sharing.specs.Proportional.{shares_after, shares_in_proportion}
use Rattle.sharing.specs.Ways.{SharedOut}
use Rattle.sharing.specs.Kept.Amounts.{sum_cons}

div_mono : (a b t : ℕ) → a ≤ b → a / t ≤ b / t
div_mono a b zero h = omega (arith, div-zero a, div-zero b)
div_mono a b (suc t) h = (le-div_iff_mul-le (omega arith)).1 (le_trans (div-mul-le_self a (suc t)) h)

pub floor_grows : (n t u x : ℕ) → n * u / t ≤ n * (u + x) / t
floor_grows n t u x = div_mono (n * u) (n * (u + x)) t (omega (arith, mul-add n u x))

-- where n is at most t, the floor grows by at most x
pub floor_step : (n t u x : ℕ) → n ≤ t → n * (u + x) / t - n * u / t ≤ x
floor_step n zero u x h = omega (arith, div-zero (n * (u + x)))
floor_step n (suc t) u x h =
    let up : n * (u + x) ≤ n * u + suc t * x = omega (arith, mul-add n u x, mul-le-mul_right x h) in
    omega (arith, div_mono _ _ (suc t) up, add-mul-div_left (n * u) x {y = suc t} (omega arith))

proportion_length : (n t u : ℕ) (xs : List ℕ) → length (shares_after u n t xs) ≡ length xs
proportion_length n t u [] = refl
proportion_length n t u (x ∷ xs) = ap suc (proportion_length n t (u + x) xs)

proportion_within : (n t u : ℕ) (xs : List ℕ) → n ≤ t → (i : ℕ) → slice_index (shares_after u n t xs) i ≤ slice_index xs i
proportion_within n t u [] h i = omega arith
proportion_within n t u (x ∷ xs) h zero = floor_step n t u x h
proportion_within n t u (x ∷ xs) h (suc i) = proportion_within n t (u + x) xs h i

-- the differences telescope
proportion_sum : (n t u : ℕ) (xs : List ℕ) → sum (shares_after u n t xs) + n * u / t ≡ n * (u + sum xs) / t
proportion_sum n t u [] = rw add-zero (zero-add (n * u / t))
proportion_sum n t u (x ∷ xs) =
    let more = proportion_sum n t (u + x) xs in
    let step = floor_grows n t u x in
    let e : n * (u + x + sum xs) / t ≡ n * (u + sum (x ∷ xs)) / t = ap (λ k. n * k / t) (omega (arith, sum_cons x xs)) in
    omega (arith, sum_cons (n * (u + x) / t - n * u / t) (shares_after (u + x) n t xs))

whole_floor : (n t r : ℕ) → n ≤ t → r + n * 0 / t ≡ n * (0 + t) / t → r ≡ n
whole_floor n zero r h e = omega (arith, div-zero (n * (0 + 0)))
whole_floor n (suc t) r h e =
    let f = simp (mul-zero, zero-div, zero-add) at e in
    omega (arith, f, mul-div_cancel n {n = suc t} (omega arith))

pub proportion_shared_out : (n : ℕ) (xs : List ℕ) → n ≤ sum xs → SharedOut n xs (shares_in_proportion n xs)
proportion_shared_out n xs h = record {
  same_length = proportion_length n (sum xs) 0 xs;
  within_own = proportion_within n (sum xs) 0 xs h;
  whole = whole_floor n (sum xs) _ h (proportion_sum n (sum xs) 0 xs);
}
