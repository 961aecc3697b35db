-- Members and days, then consumers and price.
use Rattle.std.proofs.Common.{append_assoc}
use Rattle.posting.proofs.body.OpeningField.put.Goals as goal

pub returns-clause-adds : goal.returns-clause-adds
returns-clause-adds c = rw (c.put-4.ensures.adds, c.put-3.ensures.adds, c.put-2.ensures.adds, c.put.ensures.adds) (simp append_assoc)
