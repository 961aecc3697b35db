-- The text of what is left of a file, one line at a time.
use Rattle.std.proofs.Common.{◌≡◌, List, [], ◌∷◌, ◌++◌, Some, None, Ok, Err, codes, Option, Result, ap, ◌∙◌, append_assoc, append-nil}
use Rattle.refusal.specs.declared.refused.Refusal.{Refusal}
use Rattle.refusal.specs.Text.{refusal_text}
use Rattle.posting.specs.declared.file.Placed.{Placed}
use Rattle.posting.specs.File.{Contents, first_of, next_in, rest_of, after_next}
use Rattle.posting.specs.Text.{placed_text, line_text, postings_text, last_text, contents_text}
use Rattle.posting.proofs.Forth.{same_some}

line_first : (postings : List Placed) (refusal : Option Refusal) (step : Result Placed Refusal) → Some step ≡ first_of postings refusal → line_text step ++ contents_text (rest_of postings refusal) ≡ postings_text postings (last_text refusal)
line_first (p ∷ more) refusal step e =
    ap (λ s. line_text s ++ postings_text more (last_text refusal)) (same_some step (Ok p) e)
    ∙ append_assoc (placed_text p) (codes "\n") (postings_text more (last_text refusal))
line_first [] (Some refusal) step e =
    ap (λ s. line_text s ++ []) (same_some step (Err refusal) e) ∙ append-nil (refusal_text refusal ++ codes "\n")
line_first [] None step e = cc

pub line_more : (c d : Contents) (step : Result Placed Refusal) → Some step ≡ next_in c → d ≡ after_next c → line_text step ++ contents_text d ≡ contents_text c
line_more c d step e rest = ap (λ x. line_text step ++ contents_text x) rest ∙ line_first c.postings c.refusal step e
