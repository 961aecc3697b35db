-- What writing a record into a buffer does.
use Rattle.std.specs.Prelude.{ℕ, cond, List, ◌++◌, length, drop, Ok, Err, Result, nat_le}
use Rattle.refusal.specs.declared.layer.Layer.TheVariants.{File}
use Rattle.refusal.specs.declared.reason.Reason.TheVariants.{OutputTooShort}
use Rattle.refusal.specs.declared.refused.Refusal.{Refusal}
use Rattle.refusal.specs.Numbers.{naming_nobody}

abbrev pub output_too_short : Refusal
output_too_short = naming_nobody OutputTooShort File

-- the answer to writing these bytes into a buffer, and the buffer after it: what lies behind them stays, and all of it where it is
-- too short
abbrev pub writing_answer : List ℕ → List ℕ → Result ℕ Refusal
writing_answer bytes buffer = cond (nat_le (length bytes) (length buffer)) (Ok (length bytes)) (Err output_too_short)

abbrev pub written_over : List ℕ → List ℕ → List ℕ
written_over bytes buffer = cond (nat_le (length bytes) (length buffer)) (bytes ++ drop (length bytes) buffer) buffer
