-- Members with both energies, one after another, and the sheet of a period in which all have them.
use Rattle.std.proofs.Common.{◌≡◌, ℕ, suc, ◌+◌, ◌<◌, ◌≤◌, true, List, [], ◌∷◌, length, get_or, ℤ, nat_abs, IfOk, Ok, Err, Result, unwrap_or, refl, ap, ◌∙◌, add-one, arith}
use native.Mathlib.Decide.{le_ind}
use Rattle.std.proofs.lemmas.List.FromFn.{length-map-range_with_len, get_or-map-range_with_len}
use Rattle.std.proofs.lemmas.Bool.{and_from, le-leb, eq-eqb}
use Rattle.refusal.specs.declared.refused.Refusal.{Refusal}
use Rattle.charging.specs.declared.imbalance.Position.{Position}
use Rattle.charging.specs.declared.imbalance.Role.TheVariants.{Producer}
use Rattle.charging.specs.Limits.{energy_limit, internal_price_limit}
use Rattle.posting.specs.declared.posting.Opening.{Opening}
use Rattle.pricing.specs.Limits.{price_limit}
use Rattle.sharing.specs.Verdict.{most_members}
use Rattle.sheet.specs.declared.line.SheetLine.{SheetLine}
use Rattle.sheet.specs.Lines.{sheet_of}
use Rattle.sheet.specs.Verdict.{position_in_range, verdict_from, positions_verdict, sheet_verdict, sheet_outcome}
use Rattle.ledger.specs.Answers.{Answer, ◌then◌}
use Rattle.ledger.specs.Energies.{Energies, Sharing, known, all_known, position_of, positions_of}

-- what stands past the end of a list of positions
abbrev pub no_position : Position
no_position = record { role = Producer; schedule_kwh = 0; reading_kwh = 0 }

-- ---- which energies are there

-- a chain whose last part is sure
pub then_sure : {Y : Type 0} (a : Answer) (x y : Y) → Ok x ≡ (a then Ok y) → (a ≡ Ok tt) × (x ≡ y)
then_sure (Ok tt) x y e = (refl, cc)
then_sure (Err r) x y e = let z : ◌≡◌ {A = ℕ} 0 1 = cc in absurd (omega arith)

pub then_refused : {Y : Type 0} (a : Answer) (y : Y) (r : Refusal) → Err r ≡ (a then Ok y) → a ≡ Err r
then_refused (Ok tt) y r e = let z : ◌≡◌ {A = ℕ} 0 1 = cc in absurd (omega arith)
then_refused (Err s) y r e = cc

module _ (E : Energies) (p : ℕ) where
  pub known_more : (i : ℕ) → all_known i E p ≡ Ok tt → known E p i ≡ Ok tt → all_known (i + 1) E p ≡ Ok tt
  known_more i h k = rw add-one (ap (λ r. r then known E p i) h ∙ k)

  -- the first member who lacks an energy gives the answer for all
  pub known_stop : (n i : ℕ) (e : Refusal) → i < n → all_known i E p ≡ Ok tt → known E p i ≡ Err e → all_known n E p ≡ Err e
  known_stop n i e l h k =
      le_ind {n = suc i} (λ m. all_known m E p ≡ Err e) (ap (λ r. r then known E p i) h ∙ k)
      (λ m _ r. ap (λ q. q then known E p m) r) n l

-- ---- the sheet

made_sure : {X : Type 0} {P : Type 0} (r : Result X Refusal) → P → IfOk r (λ _. P)
made_sure (Ok x) h = h
made_sure (Err e) h = tt

pub positions_pass : (j : ℕ) (ps : List Position) → ((i : ℕ) → i < length ps → position_in_range (get_or ps i no_position) ≡ true) → verdict_from j ps ≡ Ok tt
positions_pass j [] h = refl
positions_pass j (x ∷ ps) h =
    let first : position_in_range x ≡ true = h 0 (omega arith) in
    let rest : verdict_from (j + 1) ps ≡ Ok tt = positions_pass (j + 1) ps (λ i l. h (suc i) (omega arith)) in
    cc

module _ (o : Opening) (E : Energies) (p : ℕ) where
  pub positions_long : length (positions_of o E p) ≡ o.members
  positions_long = length-map-range_with_len (position_of o E p) 0 o.members

  pub positions_at : (i : ℕ) → i < o.members → get_or (positions_of o E p) i no_position ≡ position_of o E p i
  positions_at i h = get_or-map-range_with_len (position_of o E p) 0 o.members i i no_position h (omega arith)

module _ (o : Opening) (E : Energies) (p : ℕ) (few : o.members ≤ most_members) (small : (line period : ℕ) → unwrap_or (E line period) 0 ≤ energy_limit) where
  pub positions_in_range : positions_verdict (positions_of o E p) ≡ Ok tt
  positions_in_range =
      positions_pass 0 (positions_of o E p)
      (λ i h. let l : i < o.members = omega (arith, positions_long o E p) in
      rw (positions_at o E p i l) (and_from _ _ (le-leb _ _ (small _ p)) (le-leb _ _ (small _ p))))

  -- a sheet of these positions is drawn
  pub sheet_passes : (price : ℤ) (room : ℕ) → nat_abs o.internal_price ≤ internal_price_limit → nat_abs price ≤ price_limit → room ≡ o.members → sheet_verdict o.internal_price price (positions_of o E p) room ≡ Ok tt
  sheet_passes price room inner outer e =
      let n = positions_long o E p in
      let a = le-leb (length (positions_of o E p)) most_members (omega (arith, n)) in
      let b = eq-eqb room (length (positions_of o E p)) (omega (arith, n)) in
      let u = le-leb (nat_abs o.internal_price) internal_price_limit inner in
      let v = le-leb (nat_abs price) price_limit outer in
      let w = positions_in_range in
      cc

  pub drawn_period : (rule : Sharing) (price v q : ℤ) (ps : List Position) (before after : List SheetLine) (r : Answer)
      → nat_abs o.internal_price ≤ internal_price_limit → nat_abs price ≤ price_limit → length before ≡ o.members
      → v ≡ o.internal_price → q ≡ price → ps ≡ positions_of o E p
      → r ≡ sheet_verdict v q ps (length before) → after ≡ sheet_outcome rule v q ps before
      → (r ≡ Ok tt) × IfOk r (λ _. after ≡ sheet_of rule o.internal_price price (positions_of o E p))
  drawn_period rule price v q ps before after r inner outer long vi qi psi is outcome =
      let ok = sheet_passes price (length before) inner outer long in
      (cc, made_sure r (cc))
