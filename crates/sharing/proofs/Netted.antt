-- Netting by shares that are shared out as they should be nets all that can be netted.
use Rattle.std.specs.Prelude.{◌≡◌, ℕ, suc, ◌+◌, ◌≤◌, Bool, true, false, cond, List, [], ◌∷◌, length, ℤ, pos, negsuc, ◌+ℤ◌, ◌-ℤ◌, ◌≤ℤ◌, Ok, sum, slice_index, refl}
use Rattle.std.proofs.Common.{sym, ap, ◌∙◌, arith}
use Rattle.std.proofs.lemmas.Int.{ints}
use Rattle.sharing.specs.declared.side.Side.{Side}
use Rattle.sharing.specs.declared.side.Side.TheVariants.{Surplus, Shortage}
use Rattle.sharing.specs.Netting.{nettable, taken_off, netting, NetsAll}
use Rattle.sharing.specs.Rests.{in_set, energy, energies_from, energies, netted}
use Rattle.sharing.specs.Verdict.{verdict}
use Rattle.sharing.specs.Ways.{Modest, SharedOut}
use Rattle.sharing.specs.Kept.Netted.{share, long}

no_surplus : (z : ℤ) → z ≤ℤ pos 0 → energy Surplus z ≡ 0
no_surplus (pos n) h = omega (arith, ints)
no_surplus (negsuc n) h = refl

as_shortage : (z : ℤ) (b : ℕ) → z +ℤ pos b ≡ pos 0 → energy Shortage z ≡ b
as_shortage (pos n) b e = omega (arith, ints)
as_shortage (negsuc n) b e = omega (arith, ints)

netted_surplus : (x : ℤ) (a b : ℕ) (m : Bool) → a ≤ cond m (energy Surplus x) 0 → b ≤ cond m (energy Shortage x) 0
    → cond m (energy Surplus (x -ℤ (x -ℤ pos a +ℤ pos b))) 0 ≡ a
netted_surplus (pos n) a b true p q = let e : pos n -ℤ (pos n -ℤ pos a +ℤ pos b) ≡ pos a = omega (arith, ints) in ap (energy Surplus) e
netted_surplus (negsuc n) a b true p q = let e = no_surplus (negsuc n -ℤ (negsuc n -ℤ pos a +ℤ pos b)) (omega (arith, ints)) in omega (arith, e)
netted_surplus x a b false p q = omega arith

netted_shortage : (x : ℤ) (a b : ℕ) (m : Bool) → a ≤ cond m (energy Surplus x) 0 → b ≤ cond m (energy Shortage x) 0
    → cond m (energy Shortage (x -ℤ (x -ℤ pos a +ℤ pos b))) 0 ≡ b
netted_shortage (pos n) a b true p q =
    let zero_b : b ≡ 0 = omega arith in
    let e : pos n -ℤ (pos n -ℤ pos a +ℤ pos b) ≡ pos a = omega (arith, ints) in
    ap (energy Shortage) e ∙ sym zero_b
netted_shortage (negsuc n) a b true p q = as_shortage (negsuc n -ℤ (negsuc n -ℤ pos a +ℤ pos b)) b (omega (arith, ints))
netted_shortage x a b false p q = omega arith

-- all members, from member i on: what is netted on a side is what is taken off there
abbrev Within : ℕ → ℕ → List ℤ → List ℕ → List ℕ → Type 0
Within i s xs ns ms =
    ((k : ℕ) → slice_index ns k ≤ slice_index (energies_from i Surplus s xs) k) × ((k : ℕ) → slice_index ms k ≤ slice_index (energies_from i Shortage s xs) k)

abbrev of_side : Side → List ℕ → List ℕ → List ℕ
of_side Surplus ns ms = ns
of_side Shortage ns ms = ms

netted_is : (d : Side) (i s : ℕ) (xs : List ℤ) (ns ms : List ℕ) → length ns ≡ length xs → length ms ≡ length xs → Within i s xs ns ms
    → energies_from i d s (netted xs (taken_off xs ns ms)) ≡ of_side d ns ms
netted_is Surplus i s [] [] [] p q w = refl
netted_is Shortage i s [] [] [] p q w = refl
netted_is d i s [] (a ∷ ns) ms p q w = absurd (omega arith)
netted_is d i s [] [] (b ∷ ms) p q w = absurd (omega arith)
netted_is d i s (x ∷ xs) [] ms p q w = absurd (omega arith)
netted_is d i s (x ∷ xs) (a ∷ ns) [] p q w = absurd (omega arith)
netted_is Surplus i s (x ∷ xs) (a ∷ ns) (b ∷ ms) p q w =
    let one = netted_surplus x a b (in_set s i) (w.0 0) (w.1 0) in
    let more = netted_is Surplus (i + 1) s xs ns ms (omega arith) (omega arith) (λ k. w.0 (suc k), λ k. w.1 (suc k)) in
    cc
netted_is Shortage i s (x ∷ xs) (a ∷ ns) (b ∷ ms) p q w =
    let one = netted_shortage x a b (in_set s i) (w.0 0) (w.1 0) in
    let more = netted_is Shortage (i + 1) s xs ns ms (omega arith) (omega arith) (λ k. w.0 (suc k), λ k. w.1 (suc k)) in
    cc

-- netting by the shares f
module _ (f : ℕ → List ℕ → List ℕ) (shared_out : (n : ℕ) (xs : List ℕ) → Modest xs → n ≤ sum xs → SharedOut n xs (f n xs)) (s : ℕ) (xs : List ℤ) (ok : verdict xs ≡ Ok tt) where
  pub netting_nets : (d : Side) → energies d s (netted xs (netting f s xs)) ≡ f (nettable s xs) (energies d s xs)
  netting_nets Surplus = netted_is Surplus 0 s xs _ _ (long f shared_out s xs ok Surplus) (long f shared_out s xs ok Shortage) ((share f shared_out s xs ok Surplus).within_own, (share f shared_out s xs ok Shortage).within_own)
  netting_nets Shortage = netted_is Shortage 0 s xs _ _ (long f shared_out s xs ok Surplus) (long f shared_out s xs ok Shortage) ((share f shared_out s xs ok Surplus).within_own, (share f shared_out s xs ok Shortage).within_own)

  pub netting_nets_all : NetsAll s xs (netting f s xs)
  netting_nets_all d = ap sum (netting_nets d) ∙ (share f shared_out s xs ok d).whole
