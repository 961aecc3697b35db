-- Status 0 is that of an answer that was printed.
use Rattle.std.proofs.Common.{◌≡◌, Ok, Err, Result, OnOk, IfOk, arith}
use Rattle.std.specs.Process.{exit_status}
use Rattle.std.specs.declared.process.ExitCode.{ExitCode}
use Rattle.console.specs.Running.{status_of}
use Rattle.console.proofs.run.Goals as goal

ended : {E F : Type 0} (Answered : Type 0) (outcome : Result (Unit {0}) E) (status : Result ExitCode F) → OnOk outcome Answered → IfOk status (λ code. exit_status code ≡ status_of outcome) → IfOk status (λ code. exit_status code ≡ 0 → Answered)
ended Answered (Ok done) (Ok code) answered is = λ _. answered
ended Answered (Err error) (Ok code) answered is = λ zero. absurd (omega arith)
ended Answered outcome (Err error) answered is = tt

pub returns : goal.returns
returns g c = ended _ c.answer.result c.status.result c.answer.ensures c.status.ensures
