-- A run that has passed the judgement.
use Rattle.std.specs.Prelude.{◌≡◌}
use Rattle.ledger.specs.declared.entries.Ledger.{Ledger}
use Rattle.ledger.specs.declared.judged.JudgedRun.{JudgedRun}

-- it has the figures, marks and accounts of the ledger
pub record IsOf (ledger : Ledger) (run : JudgedRun) : Type 0 where
  pub opening : run.opening ≡ ledger.opening
  pub marks : run.marks.now ≡ ledger.marks.now
  pub accounts : run.accounts.now ≡ ledger.accounts.now
