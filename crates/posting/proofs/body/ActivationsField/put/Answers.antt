-- One activation after the other.
use Rattle.std.proofs.Common.{append_assoc}
use Rattle.posting.proofs.body.ActivationsField.put.Goals as goal

pub returns-clause-adds : goal.returns-clause-adds
returns-clause-adds c = rw (c.put-3.ensures.adds, c.put-2.ensures.adds, c.put.ensures.adds) (simp append_assoc)
