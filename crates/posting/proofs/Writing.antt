-- What is written reads back.
use Rattle.std.proofs.Common.{◌≡◌, ℕ, true, false, cond, leb, List, ◌++◌, length, drop, Ok, Err, Result, ap, ◌∙◌}
use Rattle.refusal.specs.declared.refused.Refusal.{Refusal}
use Rattle.posting.specs.declared.posting.Posting.{Posting}
use Rattle.posting.specs.Encoding.{encoded}
use Rattle.posting.specs.Reading.{record_in}
use Rattle.posting.specs.Laws.{Proper, ReadsBack}
use Rattle.posting.specs.Writing.{output_too_short, writing_answer, written_over}
use Rattle.posting.proofs.Back.{back}

pub reads_back : (p : Posting) (buffer after : List ℕ) (r : Result ℕ Refusal) → Proper p → r ≡ writing_answer (encoded p) buffer → after ≡ written_over (encoded p) buffer → ReadsBack p after r
reads_back p buffer after r proper is over =
    elim (leb (length (encoded p)) (length buffer)) as (λ b. r ≡ cond b (Ok (length (encoded p))) (Err output_too_short) → after ≡ cond b (encoded p ++ drop (length (encoded p)) buffer) buffer → ReadsBack p after r) [
      | true ↦ λ e o. rw e (ap record_in o ∙ back p (drop (length (encoded p)) buffer) proper)
      | false ↦ λ e o. rw e tt
    ] is over
