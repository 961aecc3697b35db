-- A file's contents from a place on, one record at a time.
use Rattle.std.proofs.Common.{◌≡◌, ℕ, zero, suc, ◌+◌, ◌-◌, ◌<◌, ◌≤◌, Bool, true, leb, List, [], ◌∷◌, length, drop, Some, None, Ok, Err, Option, Result, sym, refl, ap, ◌∙◌, add-zero, arith, length-drop}
use Rattle.refusal.specs.declared.refused.Refusal.{Refusal}
use Rattle.refusal.specs.Numbers.{at_place}
use Rattle.std.specs.List.{between}
use Rattle.std.proofs.lemmas.List.{drop-drop}
use Rattle.std.proofs.lemmas.Slice.{between_to_end}
use Rattle.std.proofs.lemmas.Bool.{leb-true, cond_both}
use Rattle.posting.specs.declared.file.Placed.{Placed}
use Rattle.posting.specs.declared.posting.Posting.{Posting}
use Rattle.posting.specs.declared.reader.Record.{Record}
use Rattle.posting.specs.File.{followed_by, in_turn, placed_record, then_from, contents_behind, contents_from}
use Rattle.posting.specs.Reading.{cut_short, bad_record, record_size, sized, record_in}
use Rattle.posting.proofs.Lawful.{same_ok}

-- ---- how many bytes a record takes

sized_size : (size : ℕ) (o : Option Posting) (r : Record) → sized size o ≡ Ok r → r.size ≡ size
sized_size size None r e = cc
sized_size size (Some p) r e = ap (λ s. s.size) (sym (same_ok (record { posting = p; size = size }) r e))

record_within : (bytes : List ℕ) (r : Record) → record_in bytes ≡ Ok r → (1 ≤ r.size) × (r.size ≤ length bytes)
record_within bytes r =
    cond_both (leb (record_size bytes) (length bytes)) _ (Err cut_short) (λ o. o ≡ Ok r → (1 ≤ r.size) × (r.size ≤ length bytes))
    (λ e h.
    let is = sized_size (record_size bytes) _ r h in
    let within = leb-true (record_size bytes) (length bytes) e in
    (omega arith, omega arith))
    (λ e h. cc)

placed_ok : (opened : Bool) (place : ℕ) (o : Result Record Refusal) (r : Record) → placed_record opened place o ≡ Ok r → o ≡ Ok r
placed_ok opened place (Ok s) r e =
    cond_both (in_turn opened s.posting) (Ok s) (Err (at_place bad_record place)) (λ x. x ≡ Ok r → ◌≡◌ {A = Result Record Refusal} (Ok s) (Ok r)) (λ _ h. h)
    (λ _ h. cc)
    e
placed_ok opened place (Err refusal) r e = cc

-- ---- from one record to the next

-- bytes of the record before are passed over
passed : (skip : ℕ) (opened : Bool) (place : ℕ) (bytes : List ℕ) → contents_behind skip opened place bytes ≡ contents_from opened (place + skip) (drop skip bytes)
passed zero opened place bytes = ap (λ n. contents_from opened n bytes) (sym (add-zero place))
passed (suc skip) opened place [] = refl
passed (suc skip) opened place (byte ∷ bytes) =
    let on : place + 1 + skip ≡ place + suc skip = omega arith in
    passed skip opened (place + 1) bytes ∙ ap (λ n. contents_from opened n (drop skip bytes)) on

next_ok : (opened : Bool) (place : ℕ) (bytes : List ℕ) (r : Record) → 0 < length bytes → placed_record opened place (record_in bytes) ≡ Ok r → contents_from opened place bytes ≡ followed_by (record { place = place; posting = r.posting }) (contents_from true (place + r.size) (drop r.size bytes))
next_ok opened place [] r some is = absurd (omega arith)
next_ok opened place (byte ∷ bytes) r some is =
    let k : ℕ = r.size - 1 in
    let within = record_within (byte ∷ bytes) r (placed_ok opened place (record_in (byte ∷ bytes)) r is) in
    let one_more : suc k ≡ r.size = omega arith in
    let on : place + 1 + k ≡ place + suc k = omega arith in
    let first : Placed = record { place = place; posting = r.posting } in
    ap (λ o. then_from place o (λ size. contents_behind (size - 1) true (place + 1) bytes)) is
    ∙ ap (followed_by first) (passed k true (place + 1) bytes)
    ∙ ap (λ n. followed_by first (contents_from true n (drop k bytes))) on
    ∙ ap (λ n. followed_by first (contents_from true (place + n) (drop n (byte ∷ bytes)))) one_more

-- ---- at a place of a file

module _ (file : List ℕ) (opened : Bool) (place : ℕ) where
  abbrev pub here : Result Record Refusal
  here = placed_record opened place (record_in (between place (length file) file))

  as_dropped : (o : Result Record Refusal) → o ≡ here → placed_record opened place (record_in (drop place file)) ≡ o
  as_dropped o is =
      sym (is ∙ ap (λ bytes. placed_record opened place (record_in bytes)) (between_to_end file place (length file) (omega arith)))

  some_left : place < length file → 0 < length (drop place file)
  some_left h = simp length-drop (omega arith)

  pub next_at : (r : Record) → place < length file → Ok r ≡ here → contents_from opened place (drop place file) ≡ followed_by (record { place = place; posting = r.posting }) (contents_from true (place + r.size) (drop (place + r.size) file))
  next_at r h is =
      next_ok opened place (drop place file) r (some_left h) (as_dropped (Ok r) is)
      ∙ ap (λ bytes. followed_by (record { place = place; posting = r.posting }) (contents_from true (place + r.size) bytes)) (drop-drop r.size place file)

  pub within_at : (r : Record) → place < length file → Ok r ≡ here → place + r.size ≤ length file
  within_at r h is =
      let within = record_within (drop place file) r (placed_ok opened place (record_in (drop place file)) r (as_dropped (Ok r) is)) in
      omega (arith, length-drop place file, within.1)
