-- Netting by shares that are shared out as they should be keeps to the law of rules.
use Rattle.std.specs.Prelude.{◌≡◌, ℕ, zero, suc, ◌<◌, ◌≤◌, Bool, true, false, cond, List, [], ◌∷◌, length, ℤ, pos, negsuc, ◌+ℤ◌, ◌-ℤ◌, Ok, sum, slice_index, slice_index_or, refl}
use Rattle.std.proofs.Common.{ap, ◌∙◌, inl, inr, arith, zero-add}
use Rattle.std.proofs.lemmas.Int.{ints}
use Rattle.sharing.specs.declared.side.Side.{Side}
use Rattle.sharing.specs.declared.side.Side.TheVariants.{Surplus, Shortage}
use Rattle.sharing.specs.Law.{FromZeroTo, Lawful}
use Rattle.sharing.specs.Netting.{nettable, taken_off, netting}
use Rattle.sharing.specs.Rests.{in_set, energy, energies, total}
use Rattle.sharing.specs.Verdict.{verdict}
use Rattle.sharing.specs.Ways.{Modest, SharedOut}
use Rattle.sharing.specs.Kept.Energies.{energies_at, energies_modest, same_long}
use Rattle.sharing.specs.Kept.Amounts.{sum_cons}

taken_off_length : (xs : List ℤ) (ns ms : List ℕ) → length (taken_off xs ns ms) ≡ length xs
taken_off_length [] ns ms = refl
taken_off_length (x ∷ xs) [] ms = refl
taken_off_length (x ∷ xs) (a ∷ ns) [] = refl
taken_off_length (x ∷ xs) (a ∷ ns) (b ∷ ms) = ap suc (taken_off_length xs ns ms)

taken_off_at : (xs : List ℤ) (ns ms : List ℕ) → length ns ≡ length xs → length ms ≡ length xs → (k : ℕ) → k < length xs
    → slice_index_or (taken_off xs ns ms) k (pos 0) ≡ slice_index_or xs k (pos 0) -ℤ pos (slice_index ns k) +ℤ pos (slice_index ms k)
taken_off_at [] ns ms p q k h = absurd (omega arith)
taken_off_at (x ∷ xs) [] ms p q k h = absurd (omega arith)
taken_off_at (x ∷ xs) (a ∷ ns) [] p q k h = absurd (omega arith)
taken_off_at (x ∷ xs) (a ∷ ns) (b ∷ ms) p q zero h = refl
taken_off_at (x ∷ xs) (a ∷ ns) (b ∷ ms) p q (suc k) h = taken_off_at xs ns ms (omega arith) (omega arith) k (omega arith)

taken_off_total : (xs : List ℤ) (ns ms : List ℕ) → length ns ≡ length xs → length ms ≡ length xs
    → total (taken_off xs ns ms) +ℤ pos (sum ns) ≡ total xs +ℤ pos (sum ms)
taken_off_total [] [] [] p q = refl
taken_off_total [] (a ∷ ns) ms p q = absurd (omega arith)
taken_off_total [] [] (b ∷ ms) p q = absurd (omega arith)
taken_off_total (x ∷ xs) [] ms p q = absurd (omega arith)
taken_off_total (x ∷ xs) (a ∷ ns) [] p q = absurd (omega arith)
taken_off_total (x ∷ xs) (a ∷ ns) (b ∷ ms) p q =
    let more = taken_off_total xs ns ms (omega arith) (omega arith) in
    omega (arith, ints, sum_cons a ns, sum_cons b ms)

-- one member, who nets at most his own on either side, and nothing outside the set
outside_stays : (x : ℤ) (a b : ℕ) (m : Bool) → m ≡ false → a ≤ cond m (energy Surplus x) 0 → b ≤ cond m (energy Shortage x) 0 → x -ℤ pos a +ℤ pos b ≡ x
outside_stays x a b true e p q = let z : ◌≡◌ {A = ℕ} 0 1 = cc in omega (arith, ints)
outside_stays x a b false e p q = omega (arith, ints)

toward : (x : ℤ) (a b : ℕ) (m : Bool) → a ≤ cond m (energy Surplus x) 0 → b ≤ cond m (energy Shortage x) 0 → FromZeroTo x (x -ℤ pos a +ℤ pos b)
toward (pos n) a b true p q = inl (omega (arith, ints))
toward (pos n) a b false p q = inl (omega (arith, ints))
toward (negsuc n) a b true p q = inr (omega (arith, ints))
toward (negsuc n) a b false p q = inr (omega (arith, ints))

-- netting by the shares f
module _ (f : ℕ → List ℕ → List ℕ) (shared_out : (n : ℕ) (xs : List ℕ) → Modest xs → n ≤ sum xs → SharedOut n xs (f n xs)) (s : ℕ) (xs : List ℤ) (ok : verdict xs ≡ Ok tt) where
  pub share : (d : Side) → SharedOut (nettable s xs) (energies d s xs) (f (nettable s xs) (energies d s xs))
  share Surplus = shared_out _ _ (energies_modest Surplus s xs ok) (omega arith)
  share Shortage = shared_out _ _ (energies_modest Shortage s xs ok) (omega arith)

  pub long : (d : Side) → length (f (nettable s xs) (energies d s xs)) ≡ length xs
  long d = (share d).same_length ∙ same_long d s xs

  own : (d : Side) (i : ℕ) → i < length xs → slice_index (f (nettable s xs) (energies d s xs)) i ≤ cond (in_set s i) (energy d (slice_index_or xs i (pos 0))) 0
  own d i h = rw (zero-add i) at (rw (energies_at d s 0 xs i h) at ((share d).within_own i))

  pub netting_lawful : Lawful s xs (netting f s xs)
  netting_lawful = record {
    same_length = taken_off_length xs _ _;
    outside_kept = λ i h m. taken_off_at xs _ _ (long Surplus) (long Shortage) i h ∙ outside_stays _ _ _ _ m (own Surplus i h) (own Shortage i h);
    toward_zero = λ i h. rw (taken_off_at xs _ _ (long Surplus) (long Shortage) i h) (toward (slice_index_or xs i (pos 0)) _ _ (in_set s i) (own Surplus i h) (own Shortage i h));
    same_total =
        let t = taken_off_total xs _ _ (long Surplus) (long Shortage) in
        let e = (share Surplus).whole in
        let e' = (share Shortage).whole in
        omega (arith, ints);
  }
