-- The energies of a set's members are modest.
use Rattle.std.specs.Prelude.{◌≡◌, ℕ, zero, suc, ◌+◌, ◌<◌, ◌≤◌, Bool, true, false, cond, List, [], ◌∷◌, length, ℤ, pos, negsuc, Ok, slice_index, slice_index_or, unsigned_abs, refl}
use Rattle.std.proofs.Common.{ap, ◌∙◌, arith}
use Rattle.std.proofs.lemmas.Bool.{leb-true, and_parts}
use Rattle.sharing.specs.declared.side.Side.{Side}
use Rattle.sharing.specs.declared.side.Side.TheVariants.{Surplus, Shortage}
use Rattle.sharing.specs.Ways.{Modest}
use Rattle.sharing.specs.Rests.{in_set, energy, energies_from, energies}
use Rattle.sharing.specs.Verdict.{rest_limit, in_range, verdict}
use Rattle.sharing.specs.Kept.Accepting.{accepted_parts}

-- the energies of a set
energies_length : (d : Side) (s i : ℕ) (xs : List ℤ) → length (energies_from i d s xs) ≡ length xs
energies_length d s i [] = refl
energies_length d s i (x ∷ xs) = ap suc (energies_length d s (i + 1) xs)

pub energies_at : (d : Side) (s i : ℕ) (xs : List ℤ) (k : ℕ) → k < length xs → slice_index (energies_from i d s xs) k ≡ cond (in_set s (i + k)) (energy d (slice_index_or xs k (pos 0))) 0
energies_at d s i [] k h = omega arith
energies_at d s i (x ∷ xs) zero h = ap (λ j. cond (in_set s j) (energy d x) 0) (omega arith)
energies_at d s i (x ∷ xs) (suc k) h =
    energies_at d s (i + 1) xs k (omega arith) ∙ ap (λ j. cond (in_set s j) (energy d (slice_index_or xs k (pos 0))) 0) (omega arith)

energy_abs : (d : Side) (x : ℤ) → energy d x ≤ unsigned_abs x
energy_abs Surplus (pos n) = omega arith
energy_abs Surplus (negsuc n) = omega arith
energy_abs Shortage (pos n) = omega arith
energy_abs Shortage (negsuc n) = omega arith

cond_le : (b : Bool) (n m : ℕ) → n ≤ m → cond b n 0 ≤ m
cond_le true n m h = h
cond_le false n m h = omega arith

energies_small : (d : Side) (s i : ℕ) (xs : List ℤ) → in_range xs ≡ true → (k : ℕ) → slice_index (energies_from i d s xs) k ≤ rest_limit
energies_small d s i [] e k = omega arith
energies_small d s i (x ∷ xs) e zero =
    cond_le (in_set s i) (energy d x) rest_limit (omega (arith, energy_abs d x, leb-true (unsigned_abs x) rest_limit (and_parts _ _ e).0))
energies_small d s i (x ∷ xs) e (suc k) = energies_small d s (i + 1) xs (and_parts _ _ e).1 k

pub energies_modest : (d : Side) (s : ℕ) (xs : List ℤ) → verdict xs ≡ Ok tt → Modest (energies d s xs)
energies_modest d s xs ok =
    let a = accepted_parts xs ok in
    record { few = omega (arith, energies_length d s 0 xs); small = energies_small d s 0 xs a.1 }

pub same_long : (d : Side) (s : ℕ) (xs : List ℤ) → length (energies d s xs) ≡ length xs
same_long d s xs = energies_length d s 0 xs
