-- What a walk along a chain of entries comes to.
use Rattle.std.proofs.Common.{◌≡◌, ℕ, zero, suc, ◌+◌, ◌<◌, ◌≤◌, Bool, true, false, cond, ltb, Some, None, Option, sym, refl, ap, ◌∙◌, add-one, arith}
use Rattle.std.proofs.lemmas.Bool.{ltb-true, cond-true, cond-false, lt-ltb}
use Rattle.keyed.specs.Memory.{chained}

pub never : (p : ℕ) → ◌≡◌ {A = Option ℕ} None (Some p) → ⊥
never p e = let z : ◌≡◌ {A = ℕ} 0 1 = cc in omega arith

only_if : (b : Bool) (o p : Option ℕ) → (b ≡ true → o ≡ p) → cond b o None ≡ cond b p None
only_if true o p same = same refl
only_if false o p same = refl

module _ (test : ℕ → Bool) (older : ℕ → ℕ) where
  -- how many entries are looked at does not matter, if there are enough
  pub enough : (n m place : ℕ) → place < n → place < m → chained test older n place ≡ chained test older m place
  enough zero m place h k = absurd (omega arith)
  enough (suc n) zero place h k = absurd (omega arith)
  enough (suc n) (suc m) place h k =
      ap (cond (test place) (Some place))
      (only_if (ltb (older place) place) _ _ (λ e. let lower = ltb-true (older place) place e in enough n m (older place) (omega arith) (omega arith)))

  module _ (place : ℕ) where
    pub chained_here : test place ≡ true → Some place ≡ chained test older (place + 1) place
    chained_here here = rw add-one (sym (cond-true (test place) (Some place) _ here))

    pub chained_on : test place ≡ false → older place < place → chained test older (older place + 1) (older place) ≡ chained test older (place + 1) place
    chained_on other lower =
        enough (older place + 1) place (older place) (omega arith) lower
        ∙ rw add-one (sym (cond-false (test place) (Some place) _ other ∙ cond-true (ltb (older place) place) _ None (lt-ltb (older place) place lower)))

  -- a walk ends where the test holds, and never above its beginning
  pub chained_at : (n place p : ℕ) → chained test older n place ≡ Some p → (test p ≡ true) × (p ≤ place)
  chained_at zero place p e = absurd (never p e)
  chained_at (suc n) place p e = at (test place) refl (ltb (older place) place) refl e (chained_at n (older place) p)
    where
      at : (b : Bool) → test place ≡ b → (l : Bool) → ltb (older place) place ≡ l
          → cond b (Some place) (cond l (chained test older n (older place)) None) ≡ Some p
          → (chained test older n (older place) ≡ Some p → (test p ≡ true) × (p ≤ older place)) → (test p ≡ true) × (p ≤ place)
      at true here l is found on = let same : place ≡ p = cc in (ap test (sym same) ∙ here, omega arith)
      at false other true lower found on = let below = ltb-true (older place) place lower in ((on found).0, omega (arith, (on found).1))
      at false other false past found on = absurd (never p found)

-- walks over entries that agree below a place
module _ (test test' : ℕ → Bool) (older older' : ℕ → ℕ) (m : ℕ) (same_test : (p : ℕ) → p < m → test' p ≡ test p) (same_older : (p : ℕ) → p < m → older' p ≡ older p) where
  pub chained_below : (n place : ℕ) → place < m → chained test' older' n place ≡ chained test older n place
  chained_below zero place h = refl
  chained_below (suc n) place h =
      ap (λ b. cond b (Some place) (cond (ltb (older' place) place) (chained test' older' n (older' place)) None)) (same_test place h)
      ∙ ap (λ o. cond (test place) (Some place) (cond (ltb o place) (chained test' older' n o) None)) (same_older place h)
      ∙ ap (cond (test place) (Some place))
      (only_if (ltb (older place) place) _ _ (λ e. let lower = ltb-true (older place) place e in chained_below n (older place) (omega arith)))
