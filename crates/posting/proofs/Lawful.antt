-- What is read keeps the laws of reading.
use Rattle.std.proofs.Common.{◌≡◌, ℕ, suc, ◌+◌, ◌*◌, ◌<◌, ◌≤◌, true, false, cond, leb, List, [], ◌∷◌, ◌++◌, length, take, drop, Some, None, Ok, Err, Option, Result, sym, refl, ap, ◌∙◌, subst, ⊎_elim, arith, length-take}
use Rattle.refusal.specs.declared.refused.Refusal.{Refusal}
use Rattle.std.specs.Result.{result_unwrap_or}
use Rattle.std.proofs.lemmas.List.{get_or-take, get_or_past, length-take-le, take-append-drop}
use Rattle.std.proofs.lemmas.Bool.{leb-true, cases_lt, cond_both}
use Rattle.posting.specs.declared.posting.Posting.{Posting}
use Rattle.posting.specs.declared.reader.Record.{Record}
use Rattle.posting.specs.Bytes.{two, two_at}
use Rattle.posting.specs.Encoding.{body_of, encoded}
use Rattle.posting.specs.Reading.{posting_in, cut_short, bad_record, record_size, sized, record_in}
use Rattle.posting.specs.Laws.{Proper, Accepts, Reads}
use Rattle.posting.proofs.Numbers.{Bytes, two_of}
use Rattle.posting.proofs.Back.{back}
use Rattle.posting.proofs.Forth.{body_forth}

pub same_ok : (r s : Record) → ◌≡◌ {A = Result Record Refusal} (Ok r) (Ok s) → r ≡ s
same_ok r s e = ap (λ o. result_unwrap_or o r) e

bytes_take : (n : ℕ) (xs : List ℕ) → Bytes xs → Bytes (take n xs)
bytes_take n xs bytes i =
    let past : n ≤ i → length (take n xs) ≤ i = λ h. simp length-take (omega arith) in
    let zero : 0 < 256 = omega arith in
    ⊎_elim (λ h. subst (λ b. b < 256) (sym (get_or-take n xs i 0 h)) (bytes i))
    (λ h. subst (λ b. b < 256) (sym (get_or_past (take n xs) i 0 (past h))) zero)
    (cases_lt i n)

sole : (bytes : List ℕ) (r : Record) → record_in bytes ≡ Ok r → (p : Posting) (rest : List ℕ) → Proper p → bytes ≡ encoded p ++ rest → p ≡ r.posting
sole bytes r is p rest proper e =
    ap (λ s. s.posting) (same_ok (record { posting = p; size = length (encoded p) }) r (sym (back p rest proper) ∙ ap record_in (sym e) ∙ is))

-- bytes that begin with a length and the body of a posting of that length
module _ (high low : ℕ) (rest : List ℕ) (bytes : Bytes (high ∷ low ∷ rest)) where
  whole : (p : Posting) → high * 256 + low ≤ length rest → body_of p ≡ take (high * 256 + low) rest → (2 + (high * 256 + low) ≡ length (encoded p)) × (high ∷ low ∷ rest ≡ encoded p ++ drop (2 + (high * 256 + low)) (high ∷ low ∷ rest))
  whole p within body =
      let n : ℕ = high * 256 + low in
      let long : length (body_of p) ≡ n = ap length body ∙ length-take-le n rest within in
      let size : 2 + n ≡ suc (suc n) = omega arith in
      let front : high ∷ low ∷ [] ≡ two (length (body_of p)) = sym (two_of (high ∷ low ∷ rest) bytes 0) ∙ ap two (sym long) in
      let back : rest ≡ body_of p ++ drop n rest = sym (take-append-drop n rest) ∙ ap (λ xs. xs ++ drop n rest) (sym body) in (
        omega arith,
        (λ i. front i ++ back i) ∙ ap (λ m. encoded p ++ drop m (high ∷ low ∷ rest)) (sym size),
      )

  accepted : (r : Record) (o : Option Posting) → posting_in (take (high * 256 + low) rest) ≡ o → 2 + (high * 256 + low) ≤ length (high ∷ low ∷ rest) → sized (2 + (high * 256 + low)) o ≡ Ok r → record_in (high ∷ low ∷ rest) ≡ Ok r → Accepts (high ∷ low ∷ rest) r
  accepted r None is within e all = cc
  accepted r (Some p) is within e all =
      let written = body_forth (take (high * 256 + low) rest) (bytes_take (high * 256 + low) rest (λ i. bytes (suc (suc i)))) p is in
      let both = whole p (omega arith) written.0 in
      let found : record { posting = p; size = 2 + (high * 256 + low) } ≡ r = same_ok _ r e in
      subst (Accepts (high ∷ low ∷ rest)) found
      (record {
        proper = written.1;
        size = both.0;
        writing = both.1;
        sole = λ q after proper is_q. sole (high ∷ low ∷ rest) r all q after proper is_q ∙ ap (λ s. s.posting) (sym found);
      })

-- a record that is all there has its two bytes of length
accepts : (bytes : List ℕ) → Bytes bytes → (r : Record) → record_size bytes ≤ length bytes → sized (record_size bytes) (posting_in (take (two_at bytes 0) (drop 2 bytes))) ≡ Ok r → record_in bytes ≡ Ok r → Accepts bytes r
accepts [] small r within e all = absurd (omega arith)
accepts (high ∷ []) small r within e all = absurd (omega arith)
accepts (high ∷ low ∷ rest) small r within e all = accepted high low rest small r _ refl within e all

read_accepts : (bytes : List ℕ) → Bytes bytes → (r : Record) → record_in bytes ≡ Ok r → Accepts bytes r
read_accepts bytes small r all =
    cond_both (leb (record_size bytes) (length bytes)) _ (Err cut_short) (λ o. o ≡ Ok r → Accepts bytes r)
    (λ e h. accepts bytes small r (leb-true (record_size bytes) (length bytes) e) h all)
    (λ e h. cc)
    all

sized_refuses : (size : ℕ) (o : Option Posting) (refusal : Refusal) → sized size o ≡ Err refusal → refusal ≡ bad_record
sized_refuses size None refusal e = cc
sized_refuses size (Some p) refusal e = cc

due : (bytes : List ℕ) (refusal : Refusal) → record_in bytes ≡ Err refusal → refusal ≡ cond (leb (record_size bytes) (length bytes)) bad_record cut_short
due bytes refusal e =
    elim (leb (record_size bytes) (length bytes)) as (λ b. cond b (sized (record_size bytes) (posting_in (take (two_at bytes 0) (drop 2 bytes)))) (Err cut_short) ≡ Err refusal → refusal ≡ cond b bad_record cut_short) [
      | true ↦ λ h. sized_refuses (record_size bytes) _ refusal h
      | false ↦ λ h. cc
    ] e

pub lawful : (bytes : List ℕ) → Bytes bytes → (r : Result Record Refusal) → record_in bytes ≡ r → Reads bytes r
lawful bytes small (Ok r) e = read_accepts bytes small r e
lawful bytes small (Err refusal) e = record {
  none = λ p rest proper is. cc (back p rest proper, ap record_in is);
  reason = due bytes refusal e;
}
