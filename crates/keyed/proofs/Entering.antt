-- What a list holds once an entry is replaced or appended, whether or not its memory fits.
use Rattle.std.proofs.Common.{◌≡◌, ℕ, ◌+◌, ◌-◌, ◌%◌, ◌<◌, ◌≤◌, Bool, true, false, cond, not, ◌&&◌, eqb, List, length, get_or, set, Some, None, unwrap_or, sym, refl, ap, ◌∙◌, arith}
use Rattle.std.proofs.lemmas.List.{length-set}
use Rattle.std.proofs.lemmas.Bool.{cond-true, cond-false}
use Rattle.keyed.specs.declared.entry.Entry.{Entry}
use Rattle.keyed.specs.Keys.{Exact}
use Rattle.keyed.specs.Contents.{fits_list, nothing_under, lacks_room, entered, put_outcome}
use Rattle.keyed.specs.Memory.{newest_from, place_of, held_in, held, with_newest}
use Rattle.keyed.proofs.Chains.{never}
use Rattle.keyed.proofs.Lookups.{with_content, held_some, held_replaced, held_appended, long}

module _ {K X : Type 0} (same : K → K → Bool) (exact : Exact same) (spread : K → ℕ) (es : List (Entry K X)) (used : ℕ) (d : Entry K X) (filled : used ≤ length es) (k : K) (x : X) where
  held_fits : fits_list (length es) ≡ true → held es same spread used ≡ held_in es same spread used
  held_fits fits = cond-true _ (held_in es same spread used) (nothing_under 0) fits

  pub put_replaced : (p : ℕ) → Some p ≡ cond (fits_list (length es)) (place_of es same spread used k) None
      → held (set es p (with_content (get_or es p d) x)) same spread used ≡ put_outcome same (held es same spread used) k x
  put_replaced p found = by (fits_list (length es)) refl found
    where
      by : (b : Bool) → fits_list (length es) ≡ b → Some p ≡ cond b (place_of es same spread used k) None
          → held (set es p (with_content (get_or es p d) x)) same spread used ≡ put_outcome same (held es same spread used) k x
      by true fits there =
          cond-true _ (held_in (set es p (with_content (get_or es p d) x)) same spread used) (nothing_under 0) (ap fits_list (length-set es p _) ∙ fits)
          ∙ held_replaced same exact spread es used d filled k x p (sym there)
          ∙ sym (ap (λ h. put_outcome same h k x) (held_fits fits)
          ∙ cond-false (lacks_room same (held_in es same spread used) k) _ _ (ap (λ b. not b && eqb (length es - used) 0) (held_some same exact spread es used d filled k x p (sym there))))
      by false fits there = absurd (never p (sym there))

  module _ (room : 0 < (held es same spread used).spare) (b : ℕ) (b_is : b ≡ spread k % length es) (b_within : b < length es)
      (absent : cond (fits_list (length es)) (place_of es same spread used k) None ≡ None)
      (es₁ es₂ : List (Entry K X))
      (written : es₁ ≡ set es used (record { key = k; content = x; start = b; older = unwrap_or (newest_from es used b) used; newest = (get_or es used d).newest }))
      (d₁ : Entry K X) (linked : es₂ ≡ set es₁ b (with_newest (get_or es₁ b d₁) used)) where
    pub appended : held es₂ same spread (used + 1) ≡ entered same (held es same spread used) k x
    appended = by (fits_list (length es)) refl room absent
      where
        by : (t : Bool) → fits_list (length es) ≡ t → 0 < (cond t (held_in es same spread used) (nothing_under 0)).spare → cond t (place_of es same spread used k) None ≡ None
            → held es₂ same spread (used + 1) ≡ entered same (held es same spread used) k x
        by true fits some none =
            let free : used < length es = omega arith in
            cond-true _ (held_in es₂ same spread (used + 1)) (nothing_under 0)
            (ap fits_list (long same exact spread es used d filled k x free b b_is b_within none es₁ es₂ written d₁ linked) ∙ fits)
            ∙ held_appended same exact spread es used d filled k x free b b_is b_within none es₁ es₂ written d₁ linked
            ∙ sym (ap (λ h. entered same h k x) (held_fits fits))
        by false fits some none = absurd (omega arith)
