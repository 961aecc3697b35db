-- An entry that is put in front of its chain is found there, and everything else where it was.
use Rattle.std.proofs.Common.{◌≡◌, ℕ, ◌+◌, ◌<◌, Bool, true, false, cond, ◌&&◌, eqb, ltb, Some, None, Option, unwrap_or, sym, refl, ap, ◌∙◌, ⊎_elim, add-one, arith}
use Rattle.std.proofs.lemmas.Bool.{cases_eq, cases_order, cond-true, cond-false, and_from, and_left, and_right, lt-ltb, le-ltb, eq-eqb, ne_eqb, ltb-true}
use Rattle.keyed.specs.Memory.{chained, chained_from, beginning}
use Rattle.keyed.proofs.Chains.{enough, chained_below}

-- where a chain begins is among the used
pub beginning_used : (newest start : ℕ → ℕ) (used place h : ℕ) → beginning newest start used place ≡ Some h → h < used
beginning_used newest start used place h e = by (ltb (newest place) used) refl (eqb (start (newest place)) place) e
  where
    by : (a : Bool) → ltb (newest place) used ≡ a → (b : Bool) → cond (a && b) (Some (newest place)) None ≡ Some h → h < used
    by true lt true e = let is : newest place ≡ h = cc in let l = ltb-true (newest place) used lt in omega arith
    by true lt false e = let z : ◌≡◌ {A = ℕ} 0 1 = cc in absurd (omega arith)
    by false lt b e = let z : ◌≡◌ {A = ℕ} 0 1 = cc in absurd (omega arith)

-- the entry at `used` is new; its chain starts at b
module _ (test test' : ℕ → Bool) (start start' older older' newest newest' : ℕ → ℕ) (used b : ℕ)
    (same_test : (p : ℕ) → p < used → test' p ≡ test p)
    (same_older : (p : ℕ) → p < used → older' p ≡ older p)
    (same_start : (p : ℕ) → p < used → start' p ≡ start p)
    (older_used : older' used ≡ unwrap_or (beginning newest start used b) used)
    (start_used : start' used ≡ b)
    (newest_b : newest' b ≡ used)
    (same_newest : (p : ℕ) → (p ≡ b → ⊥) → newest' p ≡ newest p) where
  -- on the chain that starts at b
  begins_there : beginning newest' start' (used + 1) b ≡ Some used
  begins_there =
      ap (λ n. cond (ltb n (used + 1) && eqb (start' n) b) (Some n) None) newest_b
      ∙ cond-true (ltb used (used + 1) && eqb (start' used) b) (Some used) None
      (and_from (ltb used (used + 1)) (eqb (start' used) b) (lt-ltb used (used + 1) (omega arith)) (eq-eqb (start' used) b start_used))

  goes_on : (o : Option ℕ) → ((h : ℕ) → o ≡ Some h → h < used)
      → cond (ltb (unwrap_or o used) used) (chained test' older' used (unwrap_or o used)) None ≡ chained_from test older o
  goes_on None within = cond-false (ltb used used) (chained test' older' used used) None (le-ltb used used (omega arith))
  goes_on (Some h) within =
      let lower = within h refl in
      cond-true (ltb h used) (chained test' older' used h) None (lt-ltb h used lower)
      ∙ chained_below test test' older older' used same_test same_older used h lower
      ∙ enough test older used (h + 1) h lower (omega arith)

  found_there : chained_from test' older' (beginning newest' start' (used + 1) b) ≡ cond (test' used) (Some used) (chained_from test older (beginning newest start used b))
  found_there =
      ap (chained_from test' older') begins_there
      ∙ rw add-one refl
      ∙ ap (λ o. cond (test' used) (Some used) (cond (ltb o used) (chained test' older' used o) None)) older_used
      ∙ ap (cond (test' used) (Some used)) (goes_on (beginning newest start used b) (beginning_used newest start used b))

  -- on any other
  begins_as_before : (s : ℕ) → (s ≡ b → ⊥) → beginning newest' start' (used + 1) s ≡ beginning newest start used s
  begins_as_before s apart =
      ap (λ n. cond (ltb n (used + 1) && eqb (start' n) s) (Some n) None) (same_newest s apart)
      ∙ ap (λ t. cond t (Some (newest s)) None)
      (⊎_elim
      (λ e. and_right (ltb (newest s) (used + 1)) (eqb (start' (newest s)) s) (ne_eqb (start' (newest s)) s (λ is. apart (sym is ∙ ap start' e ∙ start_used)))
      ∙ sym (and_left (ltb (newest s) used) (eqb (start (newest s)) s) (le-ltb (newest s) used (omega arith))))
      (⊎_elim
      (λ lt. ap (λ t. t && eqb (start' (newest s)) s) (lt-ltb (newest s) (used + 1) (omega arith) ∙ sym (lt-ltb (newest s) used lt))
      ∙ ap (λ n. ltb (newest s) used && eqb n s) (same_start (newest s) lt))
      (λ gt. and_left (ltb (newest s) (used + 1)) (eqb (start' (newest s)) s) (le-ltb (newest s) (used + 1) (omega arith))
      ∙ sym (and_left (ltb (newest s) used) (eqb (start (newest s)) s) (le-ltb (newest s) used (omega arith)))))
      (cases_order (newest s) used))

  followed_as_before : (o : Option ℕ) → ((h : ℕ) → o ≡ Some h → h < used) → chained_from test' older' o ≡ chained_from test older o
  followed_as_before None within = refl
  followed_as_before (Some h) within = chained_below test test' older older' used same_test same_older (h + 1) h (within h refl)

  pub found_appended : (s : ℕ) → (test' used ≡ true → s ≡ b)
      → chained_from test' older' (beginning newest' start' (used + 1) s) ≡ cond (test' used) (Some used) (chained_from test older (beginning newest start used s))
  found_appended s own =
      ⊎_elim
      (λ e. rw e found_there)
      (λ apart.
      ap (chained_from test' older') (begins_as_before s apart)
      ∙ followed_as_before (beginning newest start used s) (beginning_used newest start used s)
      ∙ sym (cond-false (test' used) (Some used) _ (not_own (test' used) refl apart)))
      (cases_eq s b)
    where
      not_own : (t : Bool) → test' used ≡ t → (s ≡ b → ⊥) → test' used ≡ false
      not_own true e apart = absurd (apart (own e))
      not_own false e apart = e
