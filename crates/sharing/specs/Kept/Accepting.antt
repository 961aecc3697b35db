-- Which rests are accepted: an accepted list is short enough and in range, and such a list is accepted.
use Rattle.std.specs.Prelude.{◌≡◌, ℕ, zero, suc, ◌<◌, ◌≤◌, Bool, true, false, List, [], ◌∷◌, length, ℤ, pos, Ok, nat_le, slice_index_or, unsigned_abs, refl}
use Rattle.std.proofs.Common.{arith}
use Rattle.std.proofs.lemmas.Bool.{leb-true, le-leb, and_parts, and_from}
use Rattle.sharing.specs.Verdict.{most_members, rest_limit, in_range, verdict}

pub accepts : (xs : List ℤ) → length xs ≤ most_members → in_range xs ≡ true → verdict xs ≡ Ok tt
accepts xs short within = let s = le-leb (length xs) most_members short in cc

-- an accepted list is short enough, and in range
pub accepted_parts : (xs : List ℤ) → verdict xs ≡ Ok tt → (length xs ≤ most_members) × (in_range xs ≡ true)
accepted_parts xs e = go (nat_le (length xs) most_members) refl (in_range xs) refl
  where
    go : (a : Bool) → nat_le (length xs) most_members ≡ a → (b : Bool) → in_range xs ≡ b → (length xs ≤ most_members) × (in_range xs ≡ true)
    go true p true q = (leb-true _ _ p, q)
    go true p false q = let z : ◌≡◌ {A = ℕ} 0 1 = cc in absurd (omega arith)
    go false p b q = let z : ◌≡◌ {A = ℕ} 0 1 = cc in absurd (omega arith)

pub in_range_at : (xs : List ℤ) (i : ℕ) → i < length xs → in_range xs ≡ true → unsigned_abs (slice_index_or xs i (pos 0)) ≤ rest_limit
in_range_at [] i h e = omega arith
in_range_at (x ∷ xs) zero h e = leb-true (unsigned_abs x) rest_limit (and_parts _ _ e).0
in_range_at (x ∷ xs) (suc i) h e = in_range_at xs i (omega arith) (and_parts _ _ e).1

pub in_range_from : (xs : List ℤ) → ((i : ℕ) → i < length xs → unsigned_abs (slice_index_or xs i (pos 0)) ≤ rest_limit) → in_range xs ≡ true
in_range_from [] f = refl
in_range_from (x ∷ xs) f = and_from _ _ (le-leb (unsigned_abs x) rest_limit (f 0 (omega arith))) (in_range_from xs (λ i h. f (suc i) (omega arith)))
