-- An accepted opening begins a run.
use Rattle.settlement.proofs.Ranges.{begins}
use Rattle.settlement.proofs.opening.open.Goals as goal

pub returns-clause-begins : goal.returns-clause-begins
returns-clause-begins c = begins _ c.clear.result _ _ c.clear.ensures.does
