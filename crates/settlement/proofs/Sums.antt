-- Sums below a bound: one term changed, two sums in either order, a list's total, and the members' charges in one period.
use Rattle.std.proofs.Common.{◌≡◌, ℕ, zero, suc, ◌+◌, ◌*◌, ◌<◌, ◌≤◌, Bool, true, false, cond, ◌≢◌, ◌⊎◌, List, [], ◌∷◌, length, get_or, ℤ, pos, ◌+ℤ◌, ◌-ℤ◌, ◌*ℤ◌, nat_abs, sym, refl, ap, ◌∙◌, ap₂, inl, inr, suc-mul, arith}
use lib.IntN.{zero-*ℤ, *ℤ_comm, +ℤ_idl}
use Rattle.std.proofs.lemmas.Int.{ints}
use Rattle.std.proofs.lemmas.Bool.{cases_eq}
use Rattle.charging.specs.Charge.{charge}
use Rattle.ledger.specs.Invoices.{sum_below}
use Rattle.sharing.specs.Rests.{total}
use Rattle.sheet.proofs.Products.{add_mul}

pub sum_same : (n : ℕ) (f g : ℕ → ℤ) → ((k : ℕ) → k < n → f k ≡ g k) → sum_below n f ≡ sum_below n g
sum_same zero f g e = refl
sum_same (suc n) f g e = ap₂ ◌+ℤ◌ (sum_same n f g (λ k h. e k (omega arith))) (e n (omega arith))

at_the_last : (s a b : ℤ) → s +ℤ b ≡ s +ℤ a +ℤ (b -ℤ a)
at_the_last s a b = omega (arith, ints)

before_the_last : (s a d : ℤ) → s +ℤ d +ℤ a ≡ s +ℤ a +ℤ d
before_the_last s a d = omega (arith, ints)

-- the sum follows when the term at p alone is another
pub sum_change : (n : ℕ) (f g : ℕ → ℤ) (p : ℕ) → p < n → ((k : ℕ) → k ≢ p → g k ≡ f k) → sum_below n g ≡ sum_below n f +ℤ (g p -ℤ f p)
sum_change zero f g p h e = absurd (omega arith)
sum_change (suc n) f g p h e = go (cases_eq p n) (λ less. sum_change n f g p less e)
  where
    go : (p ≡ n) ⊎ (p ≡ n → ⊥) → (p < n → sum_below n g ≡ sum_below n f +ℤ (g p -ℤ f p)) → sum_below (suc n) g ≡ sum_below (suc n) f +ℤ (g p -ℤ f p)
    go (inl q) shorter =
        ap₂ ◌+ℤ◌ (sum_same n g f (λ k l. e k (omega (arith, q)))) (ap g (sym q)) ∙ at_the_last (sum_below n f) (f p) (g p)
        ∙ ap (λ k. sum_below n f +ℤ f k +ℤ (g p -ℤ f p)) q
    go (inr q) shorter =
        let less : p < n = omega (arith, q) in
        ap₂ ◌+ℤ◌ (shorter less) (e n (λ r. q (sym r))) ∙ before_the_last (sum_below n f) (f n) (g p -ℤ f p)

pub sum_zero : (n : ℕ) → sum_below n (λ _. pos 0) ≡ pos 0
sum_zero zero = refl
sum_zero (suc n) = ap (λ z. z +ℤ pos 0) (sum_zero n)

sum_add : (n : ℕ) (f g : ℕ → ℤ) → sum_below n (λ k. f k +ℤ g k) ≡ sum_below n f +ℤ sum_below n g
sum_add zero f g = refl
sum_add (suc n) f g = omega (arith, ints, sum_add n f g)

pub sum_sub : (n : ℕ) (f g : ℕ → ℤ) → sum_below n (λ k. f k -ℤ g k) ≡ sum_below n f -ℤ sum_below n g
sum_sub zero f g = refl
sum_sub (suc n) f g = omega (arith, ints, sum_sub n f g)

-- rows and columns
pub sum_swap : (n m : ℕ) (f : ℕ → ℕ → ℤ) → sum_below n (λ i. sum_below m (f i)) ≡ sum_below m (λ j. sum_below n (λ i. f i j))
sum_swap zero m f = sym (sum_zero m)
sum_swap (suc n) m f = ap (λ z. z +ℤ sum_below m (f n)) (sum_swap n m f) ∙ sym (sum_add m (λ j. sum_below n (λ i. f i j)) (f n))

pub sum_cond : (n : ℕ) (b : Bool) (f : ℕ → ℤ) → sum_below n (λ i. cond b (f i) (pos 0)) ≡ cond b (sum_below n f) (pos 0)
sum_cond n true f = refl
sum_cond n false f = sum_zero n

-- terms that count or not by the same test
pub cond_agree : (a b : Bool) (u v : ℤ) → a ≡ b → (a ≡ true → u ≡ v) → cond a u (pos 0) ≡ cond b v (pos 0)
cond_agree a b u v e f = ap (λ c. cond c u (pos 0)) e ∙ go b (λ h. f (e ∙ h))
  where
    go : (c : Bool) → (c ≡ true → u ≡ v) → cond c u (pos 0) ≡ cond c v (pos 0)
    go true h = h refl
    go false h = refl

sum_front : (n : ℕ) (f : ℕ → ℤ) → sum_below (suc n) f ≡ f 0 +ℤ sum_below n (λ i. f (suc i))
sum_front zero f = omega (arith, ints)
sum_front (suc n) f = omega (arith, ints, sum_front n f)

pub total_by_places : (xs : List ℤ) → total xs ≡ sum_below (length xs) (λ i. get_or xs i (pos 0))
total_by_places [] = refl
total_by_places (x ∷ xs) = ap (λ z. x +ℤ z) (total_by_places xs) ∙ sym (sum_front (length xs) (λ i. get_or (x ∷ xs) i (pos 0)))

-- ---- charges

pub same_less : (a b : ℤ) → b ≡ a → a -ℤ b ≡ pos 0
same_less a b e = omega (arith, ints)

module _ (q p : ℤ) where
  four : (a b c d u v : ℤ) → u ≡ a +ℤ c → v ≡ b +ℤ d → (a +ℤ b) +ℤ (c +ℤ d) ≡ u +ℤ v
  four a b c d u v e f = omega (arith, ints)

  charge_add : (n y m z : ℤ) → charge q p n y +ℤ charge q p m z ≡ charge q p (n +ℤ m) (y +ℤ z)
  charge_add n y m z = four (n *ℤ q) (y *ℤ p) (m *ℤ q) (z *ℤ p) _ _ (add_mul n m q) (add_mul y z p)

  -- all are charged together what their energies together would be
  sum_charge : (k : ℕ) (n y : ℕ → ℤ) → sum_below k (λ i. charge q p (n i) (y i)) ≡ charge q p (sum_below k n) (sum_below k y)
  sum_charge zero n y = omega (arith, ints, zero-*ℤ q, zero-*ℤ p)
  sum_charge (suc k) n y = ap (λ z. z +ℤ charge q p (n k) (y k)) (sum_charge k n y) ∙ charge_add (sum_below k n) (sum_below k y) (n k) (y k)

  nothing_netted : (n y : ℤ) → n ≡ pos 0 → charge q p n y ≡ p *ℤ y
  nothing_netted n y e = ap (λ z. charge q p z y) e ∙ ap (λ z. z +ℤ y *ℤ p) (zero-*ℤ q) ∙ +ℤ_idl (y *ℤ p) ∙ *ℤ_comm y p

  -- where the rests sum to the imbalances, that is the operator's bill
  pub charges_make_bill : (k : ℕ) (x y : ℕ → ℤ) → sum_below k y ≡ sum_below k x → sum_below k (λ i. charge q p (x i -ℤ y i) (y i)) ≡ p *ℤ sum_below k x
  charges_make_bill k x y e =
      sum_charge k (λ i. x i -ℤ y i) y ∙ nothing_netted _ (sum_below k y) (sum_sub k x y ∙ same_less (sum_below k x) (sum_below k y) e)
      ∙ ap (λ z. p *ℤ z) e

-- ---- sizes

size_of_zero : (k : ℕ) → nat_abs (pos 0) ≤ k
size_of_zero k = omega arith

size_of_sum : (a b : ℤ) (m k : ℕ) → nat_abs a ≤ m → nat_abs b ≤ k → nat_abs (a +ℤ b) ≤ m + k
size_of_sum a b m k h l = omega (arith, ints)

-- a sum of n terms, each of at most this size
pub sum_small : (n k : ℕ) (f : ℕ → ℤ) → ((q : ℕ) → q < n → nat_abs (f q) ≤ k) → nat_abs (sum_below n f) ≤ n * k
sum_small zero k f h = size_of_zero (zero * k)
sum_small (suc n) k f h =
    omega (arith, suc-mul n k, size_of_sum (sum_below n f) (f n) (n * k) k (sum_small n k f (λ q l. h q (omega arith))) (h n (omega arith)))

pub cond_small : (b : Bool) (k : ℕ) (z : ℤ) → nat_abs z ≤ k → nat_abs (cond b z (pos 0)) ≤ k
cond_small true k z h = h
cond_small false k z h = size_of_zero k
