-- What stands before the first visible byte is dropped, and what stands before the next blank is the word.
use Rattle.std.proofs.Common.{◌≡◌, ℕ, List, length, take, drop, not, ap, ◌∙◌, arith, rules, tests}
use Rattle.std.specs.List.{between, position_or_len}
use Rattle.std.proofs.lemmas.Iterator.{YieldsList-from_slice}
use Rattle.std.proofs.lemmas.Iterator.Search.{position_from_yields_List}
use Rattle.std.proofs.lemmas.Slice.{between_to_end}
use Rattle.description.specs.Words.{is_blank, trimmed}
use Rattle.description.proofs.Fronts.{stand_before}
use Rattle.description.proofs.words.split_word.Goals as goal

pub returns : goal.returns
returns c =
    let bytes : List ℕ = c.args.bytes.now in
    let rest : List ℕ = between c.unwrap_or.result (length bytes) bytes in
    let start = stand_before (λ b. not (is_blank b)) bytes c.position-start.result (position_from_yields_List _ _ _ _ c.position-start.ensures.ran (YieldsList-from_slice bytes cc) (λ x b q k. search (rules, tests))) in
    let cut : rest ≡ trimmed bytes = between_to_end bytes c.unwrap_or.result (length bytes) (omega arith) ∙ ap (λ n. drop n bytes) (c.unwrap_or.ensures ∙ start) in
    let end = stand_before is_blank rest c.position-end.result (position_from_yields_List _ _ _ _ c.position-end.ensures.ran (YieldsList-from_slice rest cc) (λ x b q k. search (rules, tests))) in
    let n : c.unwrap_or-2.result ≡ position_or_len is_blank rest = c.unwrap_or-2.ensures ∙ end in
    record {
      word = c.split_at.ensures.front ∙ ap (λ m. take m rest) n ∙ ap (λ (xs : List ℕ). take (position_or_len is_blank xs) xs) cut;
      rest = c.split_at.ensures.back ∙ ap (λ m. drop m rest) n ∙ ap (λ (xs : List ℕ). drop (position_or_len is_blank xs) xs) cut;
    }
