-- What passed the judgement has its facts.
use Rattle.std.proofs.Common.{◌≡◌, Ok, rules}
use Rattle.ledger.specs.Judgement.{held_in, judged}
use Rattle.ledger.proofs.Judging.{judged_facts}
use Rattle.ledger.proofs.entries.Ledger.judge.Goals as goal

pub invariant_of-result : goal.invariant_of-result
invariant_of-result c =
    let L = c.args.self.now in
    let passed : judged c.args.who L.opening (held_in L) ≡ Ok tt = search rules in
    record { judged = judged_facts c.args.who L.opening (held_in L) passed }
