-- What a list holds after a write to its memory.
use Rattle.std.proofs.Common.{◌≡◌, ℕ, ◌+◌, ◌-◌, ◌%◌, ◌<◌, ◌≤◌, Bool, true, false, cond, List, map, length, get_or, set, is_some, IfSome, Some, None, Option, unwrap_or, sym, refl, ap, ◌∙◌, ⊎_elim, arith}
use mathlib.Core.Path.{fun_ext}
use Rattle.std.specs.List.{slice_get}
use Rattle.std.proofs.lemmas.List.{map-set, length-set, length-map, get_or-set_same, get_or-set_other}
use Rattle.std.proofs.lemmas.Option.{slice_get-get_or}
use Rattle.std.proofs.lemmas.Bool.{cases_eq, cond-true, cond-false}
use Rattle.keyed.specs.declared.entry.Entry.{Entry}
use Rattle.keyed.specs.Keys.{Exact}
use Rattle.keyed.specs.Contents.{entered}
use Rattle.keyed.specs.Memory.{is_of, start_at, older_at, newest_at, newest_from, beginning, chained_from, found_from, place_of, content_at, held_in, with_newest}
use Rattle.keyed.proofs.Chains.{never, chained_at}
use Rattle.keyed.proofs.Fields.{field, field_kept, nth_set_same, nth_set_other}
use Rattle.keyed.proofs.Appending.{beginning_used, found_appended}

-- an entry with another content
abbrev pub with_content : {K X : Type 0} → Entry K X → X → Entry K X
with_content e content = record { key = e.key; content = content; start = e.start; older = e.older; newest = e.newest }

-- the place that is found, by the lists of what the entries say
placed : List Bool → List ℕ → List ℕ → List ℕ → ℕ → ℕ → Option ℕ
placed tests olders newests starts used s =
    chained_from (λ p. get_or tests p false) (λ p. get_or olders p 0) (beginning (λ p. get_or newests p 0) (λ p. get_or starts p 0) used s)

module _ {tests tests' : List Bool} {olders olders' newests newests' starts starts' : List ℕ} where
  placed_alike : tests' ≡ tests → olders' ≡ olders → newests' ≡ newests → starts' ≡ starts → (used s : ℕ)
      → placed tests' olders' newests' starts' used s ≡ placed tests olders newests starts used s
  placed_alike t o n b used s =
      ap (λ l. placed l olders' newests' starts' used s) t
      ∙ ap (λ l. placed tests l newests' starts' used s) o
      ∙ ap (λ l. placed tests olders l starts' used s) n
      ∙ ap (λ l. placed tests olders newests l used s) b

module _ {K X : Type 0} (same : K → K → Bool) (spread : K → ℕ) (es : List (Entry K X)) (used : ℕ) where
  -- what is found is the key's, and among the used
  pub found_at : (q : K) (s p : ℕ) → found_from es same used q s ≡ Some p → (is_of es same q p ≡ true) × (p < used)
  found_at q s p e = by (newest_from es used s) refl e
    where
      by : (o : Option ℕ) → newest_from es used s ≡ o → chained_from (is_of es same q) (older_at es) o ≡ Some p → (is_of es same q p ≡ true) × (p < used)
      by None is e = let z : ◌≡◌ {A = ℕ} 0 1 = cc in absurd (omega arith)
      by (Some h) is e =
          let there = chained_at (is_of es same q) (older_at es) (h + 1) h p e in
          let low = beginning_used (newest_at es) (start_at es) used s h is in
          (there.0, omega (arith, there.1, low))

  pub key_at : (q : K) (p : ℕ) (e : Entry K X) → p < length es → same q (get_or es p e).key ≡ is_of es same q p
  key_at q p e within = field (λ x. same q x.key) es p e false within

  pub place_within : (q : K) (o : Option ℕ) → used ≤ length es → o ≡ place_of es same spread used q → IfSome o (λ p. p < length es)
  place_within q None filled is = tt
  place_within q (Some p) filled is = omega (arith, (found_at q (spread q % length es) p (sym is)).1)

-- an entry d stands for what is read past the end of the memory
module _ {K X : Type 0} (same : K → K → Bool) (exact : Exact same) (spread : K → ℕ) (es : List (Entry K X)) (used : ℕ) (d : Entry K X) where
  -- one entry is of one key
  one_key : (q k : K) (p : ℕ) → p < length es → is_of es same q p ≡ true → is_of es same k p ≡ true → same q k ≡ true
  one_key q k p within of_q of_k =
      let q_is = (exact q (get_or es p d).key).0 (field (λ e. same q e.key) es p d false within ∙ of_q) in
      let k_is = (exact k (get_or es p d).key).0 (field (λ e. same k e.key) es p d false within ∙ of_k) in
      (exact q k).1 (q_is ∙ sym k_is)

  module _ (filled : used ≤ length es) (k : K) (x : X) where
    -- the content of an entry replaced
    module _ (p : ℕ) (there : place_of es same spread used k ≡ Some p) where
      within : p < length es
      within = omega (arith, (found_at same spread es used k (spread k % length es) p there).1)

      place_kept : (q : K) → place_of (set es p (with_content (get_or es p d) x)) same spread used q ≡ place_of es same spread used q
      unfolding placed
      place_kept q =
          let e = with_content (get_or es p d) x in
          placed_alike
          (field_kept (λ e. same q e.key) es p e d within refl)
          (field_kept (λ e. e.older) es p e d within refl)
          (field_kept (λ e. e.newest) es p e d within refl)
          (field_kept (λ e. e.start) es p e d within refl)
          used (spread q % length (set es p e))
          ∙ ap (λ n. found_from es same used q (spread q % n)) (length-set es p e)

      content_written : (q : K) (o : Option ℕ) → place_of es same spread used q ≡ o
          → content_at (set es p (with_content (get_or es p d) x)) o ≡ cond (same q k) (Some x) (content_at es o)
      content_written q None is = sym (cond-false (same q k) (Some x) None (other (same q k) refl))
        where
          other : (b : Bool) → same q k ≡ b → same q k ≡ false
          other true e = let z : None ≡ Some p = sym is ∙ ap (place_of es same spread used) ((exact q k).0 e) ∙ there in absurd (never p z)
          other false e = e
      content_written q (Some i) is =
          ap (λ l. slice_get l i) (map-set (λ e. e.content) es p (with_content (get_or es p d) x))
          ∙ ⊎_elim
          (λ e.
          ap (slice_get (set (map (λ e. e.content) es) p x)) e
          ∙ nth_set_same (map (λ e. e.content) es) p x (simp length-map within)
          ∙ sym (cond-true (same q k) (Some x) _ (one_key q k p within (ap (is_of es same q) (sym e) ∙ (found_at same spread es used q _ i is).0) (found_at same spread es used k _ p there).0)))
          (λ apart.
          nth_set_other (map (λ e. e.content) es) p i x apart
          ∙ sym (cond-false (same q k) (Some x) _ (other (same q k) refl apart)))
          (cases_eq i p)
        where
          other : (b : Bool) → same q k ≡ b → (i ≡ p → ⊥) → same q k ≡ false
          other true e apart = let z : Some i ≡ Some p = sym is ∙ ap (place_of es same spread used) ((exact q k).0 e) ∙ there in absurd (apart (cc))
          other false e apart = e

      replaced_under : (q : K) → content_at (set es p (with_content (get_or es p d) x)) (place_of (set es p (with_content (get_or es p d) x)) same spread used q)
          ≡ cond (same q k) (Some x) (content_at es (place_of es same spread used q))
      replaced_under q = ap (content_at (set es p (with_content (get_or es p d) x))) (place_kept q) ∙ content_written q (place_of es same spread used q) refl

      pub held_some : is_some (content_at es (place_of es same spread used k)) ≡ true
      held_some =
          ap (λ o. is_some (content_at es o)) there
          ∙ ap is_some (slice_get-get_or (map (λ e. e.content) es) p x (simp length-map within))

      pub held_replaced : held_in (set es p (with_content (get_or es p d) x)) same spread used ≡ entered same (held_in es same spread used) k x
      held_replaced = λ i. record {
        under = fun_ext replaced_under i;
        spare = (ap (λ n. n - used) (length-set es p (with_content (get_or es p d) x)) ∙ sym (cond-true _ (length es - used) (length es - used - 1) held_some)) i;
      }

    -- an entry for a new key, in front of the chain that starts at b
    module _ (room : used < length es) (b : ℕ) (b_is : b ≡ spread k % length es) (b_within : b < length es) (absent : place_of es same spread used k ≡ None)
        (es₁ es₂ : List (Entry K X))
        (written : es₁ ≡ set es used (record { key = k; content = x; start = b; older = unwrap_or (newest_from es used b) used; newest = (get_or es used d).newest }))
        (d₁ : Entry K X) (linked : es₂ ≡ set es₁ b (with_newest (get_or es₁ b d₁) used)) where
      new_entry : Entry K X
      new_entry = record { key = k; content = x; start = b; older = unwrap_or (newest_from es used b) used; newest = (get_or es used d).newest }

      pub long : length es₂ ≡ length es
      long = ap length linked ∙ length-set es₁ b (with_newest (get_or es₁ b d₁) used) ∙ ap length written ∙ length-set es used _

      b_within₁ : b < length es₁
      b_within₁ = let e = ap length written ∙ length-set es used _ in omega arith

      -- every part but the links to the newest is written at the new place alone
      part_written : {Y : Type 0} (f : Entry K X → Y) → ((e : Entry K X) (n : ℕ) → f (with_newest e n) ≡ f e) → map f es₂ ≡ set (map f es) used (f new_entry)
      unfolding new_entry
      part_written f kept =
          ap (map f) linked
          ∙ field_kept f es₁ b (with_newest (get_or es₁ b d₁) used) d₁ b_within₁ (kept (get_or es₁ b d₁) used)
          ∙ ap (map f) written
          ∙ map-set f es used new_entry

      newest_written : map (λ e. e.newest) es₂ ≡ set (map (λ e. e.newest) es) b used
      unfolding new_entry
      newest_written =
          ap (map (λ e. e.newest)) linked
          ∙ map-set (λ e. e.newest) es₁ b (with_newest (get_or es₁ b d₁) used)
          ∙ ap (λ l. set l b used) (ap (map (λ e. e.newest)) written ∙ field_kept (λ e. e.newest) es used new_entry d room refl)

      place_appended : (q : K) → place_of es₂ same spread (used + 1) q ≡ cond (same q k) (Some used) (place_of es same spread used q)
      unfolding new_entry placed
      place_appended q =
          let tests = map (λ e. same q e.key) es in
          let olders = map (λ e. e.older) es in
          let newests = map (λ e. e.newest) es in
          let starts = map (λ e. e.start) es in
          let here : get_or (set tests used (same q k)) used false ≡ same q k = get_or-set_same tests used (same q k) false (simp length-map room) in
          ap (λ n. found_from es₂ same (used + 1) q (spread q % n)) long
          ∙ placed_alike
          (part_written (λ e. same q e.key) (λ _ _. refl))
          (part_written (λ e. e.older) (λ _ _. refl))
          newest_written
          (part_written (λ e. e.start) (λ _ _. refl))
          (used + 1) (spread q % length es)
          ∙ found_appended
          (λ p. get_or tests p false) (λ p. get_or (set tests used (same q k)) p false)
          (λ p. get_or starts p 0) (λ p. get_or (set starts used b) p 0)
          (λ p. get_or olders p 0) (λ p. get_or (set olders used (unwrap_or (newest_from es used b) used)) p 0)
          (λ p. get_or newests p 0) (λ p. get_or (set newests b used) p 0)
          used b
          (λ p low. get_or-set_other tests used p (same q k) false (λ e. omega arith))
          (λ p low. get_or-set_other olders used p (unwrap_or (newest_from es used b) used) 0 (λ e. omega arith))
          (λ p low. get_or-set_other starts used p b 0 (λ e. omega arith))
          (get_or-set_same olders used (unwrap_or (newest_from es used b) used) 0 (simp length-map room))
          (get_or-set_same starts used b 0 (simp length-map room))
          (get_or-set_same newests b used 0 (simp length-map b_within))
          (λ p apart. get_or-set_other newests b p used 0 apart)
          (spread q % length es)
          (λ own. ap (λ key. spread key % length es) ((exact q k).0 (sym here ∙ own)) ∙ sym b_is)
          ∙ ap (λ t. cond t (Some used) (place_of es same spread used q)) here

      content_appended : (q : K) (t : Bool) (o : Option ℕ) → place_of es same spread used q ≡ o → content_at es₂ (cond t (Some used) o) ≡ cond t (Some x) (content_at es o)
      unfolding new_entry
      content_appended q true o is =
          ap (λ l. slice_get l used) (part_written (λ e. e.content) (λ _ _. refl))
          ∙ nth_set_same (map (λ e. e.content) es) used x (simp length-map room)
      content_appended q false None is = refl
      content_appended q false (Some p) is =
          let low = (found_at same spread es used q (spread q % length es) p is).1 in
          ap (λ l. slice_get l p) (part_written (λ e. e.content) (λ _ _. refl))
          ∙ nth_set_other (map (λ e. e.content) es) used p x (λ e. omega arith)

      appended_under : (q : K) → content_at es₂ (place_of es₂ same spread (used + 1) q) ≡ cond (same q k) (Some x) (content_at es (place_of es same spread used q))
      appended_under q = ap (content_at es₂) (place_appended q) ∙ content_appended q (same q k) (place_of es same spread used q) refl

      pub held_appended : held_in es₂ same spread (used + 1) ≡ entered same (held_in es same spread used) k x
      held_appended =
          let none : is_some (content_at es (place_of es same spread used k)) ≡ false = ap (λ o. is_some (content_at es o)) absent in
          let fewer : length es₂ - (used + 1) ≡ length es - used - 1 = omega (arith, long) in
          λ i. record {
            under = fun_ext appended_under i;
            spare = (fewer ∙ sym (cond-false _ (length es - used) (length es - used - 1) none)) i;
          }
