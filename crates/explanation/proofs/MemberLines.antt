-- The lines of members, one more at a time.
use Rattle.std.proofs.Common.{◌≡◌, ℕ, suc, ◌+◌, ◌<◌, List, [], ◌∷◌, ◌++◌, length, get_or, take, sym, ap, ◌∙◌, append_assoc, append-nil, add-zero, arith, length-take}
use Rattle.std.proofs.lemmas.List.{take_more}
use Rattle.sheet.specs.declared.line.SheetLine.{SheetLine}
use Rattle.explanation.specs.Words.{member_line, member_lines}

lines_append : (i : ℕ) (xs ys : List SheetLine) → member_lines i (xs ++ ys) ≡ member_lines i xs ++ member_lines (i + length xs) ys
lines_append i [] ys = ap (λ n. member_lines n ys) (sym (add-zero i))
lines_append i (x ∷ xs) ys =
    let next : i + 1 + length xs ≡ i + suc (length xs) = omega arith in
    ap (λ t. member_line i x ++ t) (lines_append (i + 1) xs ys ∙ ap (λ n. member_lines (i + 1) xs ++ member_lines n ys) next)
    ∙ sym (append_assoc (member_line i x) (member_lines (i + 1) xs) (member_lines (i + suc (length xs)) ys))

pub lines_more : (xs : List SheetLine) (i : ℕ) (d : SheetLine) → i < length xs → member_lines 0 (take (i + 1) xs) ≡ member_lines 0 (take i xs) ++ member_line i (get_or xs i d)
lines_more xs i d h =
    let long : 0 + length (take i xs) ≡ i = simp length-take (omega arith) in
    ap (member_lines 0) (take_more xs i d h) ∙ lines_append 0 (take i xs) (get_or xs i d ∷ [])
    ∙ ap (λ n. member_lines 0 (take i xs) ++ member_lines n (get_or xs i d ∷ [])) long
    ∙ ap (λ t. member_lines 0 (take i xs) ++ t) (append-nil (member_line i (get_or xs i d)))
