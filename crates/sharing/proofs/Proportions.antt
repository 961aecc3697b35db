-- Shares in proportion: each is within one of the exact share, and the loop writes them.
use Rattle.std.specs.Prelude.{◌≡◌, ℕ, zero, suc, ◌+◌, ◌-◌, ◌*◌, ◌/◌, ◌<◌, ◌≤◌, List, [], ◌∷◌, length, drop, sum, slice_index, refl}
use Rattle.std.proofs.Common.{ap, ◌∙◌, arith, mul-add, add-mul}
use Rattle.std.proofs.Math.Nat.{div-zero}
use Rattle.std.proofs.lemmas.Nat.{div-add-mod', mod_below}
use Rattle.std.proofs.lemmas.List.Sums.{sum_by-drop_more}
use Rattle.sharing.specs.Proportional.{shares_after, NearShare}
use Rattle.sharing.specs.Kept.Amounts.{sum_cons}
use Rattle.sharing.specs.Kept.Proportions.{floor_grows}

-- a difference of floors is within one of the exact quotient
floor_near : (n t u x : ℕ) → 0 < t → NearShare (n * (u + x) / t - n * u / t) n x t
floor_near n t u x h =
    let upper = n * (u + x) in
    let lower = n * u in
    let d = upper / t - lower / t in
    let q : upper / t ≡ lower / t + d = omega (arith, floor_grows n t u x) in
    let parts : upper / t * t ≡ lower / t * t + d * t = ap (λ k. k * t) q ∙ add-mul (lower / t) d t in
    omega (arith, mul-add n u x, div-add-mod' upper t, div-add-mod' lower t, mod_below upper t h, mod_below lower t h)

pub shares_near : (n t u : ℕ) (xs : List ℕ) → 0 < t → (i : ℕ) → NearShare (slice_index (shares_after u n t xs) i) n (slice_index xs i) t
shares_near n t u [] h i = omega arith
shares_near n t u (x ∷ xs) h zero = floor_near n t u x h
shares_near n t u (x ∷ xs) h (suc i) = shares_near n t (u + x) xs h i

-- where nobody has anything, nobody gets anything
pub proportion_none : (n t u : ℕ) (xs : List ℕ) → t ≡ 0 → sum xs ≡ 0 → shares_after u n t xs ≡ xs
proportion_none n t u [] e h = refl
proportion_none n t u (x ∷ xs) e h =
    let x0 : x ≡ 0 = omega (arith, sum_cons x xs) in
    let d : n * (u + x) / t - n * u / t ≡ x = rw (e, div-zero (n * (u + x))) (omega arith) in
    rw (d, proportion_none n t (u + x) xs e (omega (arith, sum_cons x xs)))

-- member i of a loop in proportion, where u is what the members before have of all t
module _ (n t u i : ℕ) (ys : List ℕ) (h : i < length ys) (inv : u + sum (drop i ys) ≡ t) where
  left_more : sum (drop i ys) ≡ slice_index ys i + sum (drop (i + 1) ys)
  left_more = sum_by-drop_more (λ y. y) ys i 0 h

  pub owned_within : u + slice_index ys i ≤ t
  owned_within = omega (arith, left_more)
