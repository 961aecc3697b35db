-- How many bytes stand before a word, and how many it has.
use Rattle.std.proofs.Common.{◌≡◌, ℕ, ◌≤◌, Bool, cond, ltb, List, length, Some, None, Option, unwrap_or, ap, ◌∙◌, arith, tests}
use Rattle.std.specs.List.{position_or_len}
use Rattle.std.proofs.lemmas.List.Sums.{prefix_len-le-length}

-- where none passes, all stand before
all_before : (n size : ℕ) → n ≤ size → unwrap_or (cond (ltb n size) (Some n) None) size ≡ n
all_before n size within = grind (arith, tests)

pub stand_before : (test : ℕ → Bool) (bytes : List ℕ) (found : Option ℕ) → found ≡ cond (ltb (position_or_len test bytes) (length bytes)) (Some (position_or_len test bytes)) None → unwrap_or found (length bytes) ≡ position_or_len test bytes
stand_before test bytes found is =
    ap (λ (o : Option ℕ). unwrap_or o (length bytes)) is ∙ all_before (position_or_len test bytes) (length bytes) (prefix_len-le-length _ bytes)
