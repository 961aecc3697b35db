-- Settling is a step of every run.
use Rattle.settlement.specs.Runs.{settled}
use Rattle.settlement.specs.Tally.{settle}
use Rattle.settlement.proofs.Ranges.{goes_on}
use Rattle.settlement.proofs.settling.settle.Goals as goal

pub returns-clause-goes_on : goal.returns-clause-goes_on
returns-clause-goes_on g c =
    let p = c.args.period in
    let rule = c.args.rule.now in
    goes_on _ (g.R.SharingRule.meaning rule) (g.met.R.SharingRule.lawful rule) (settle p) c.settle_period.result (g.met.B.Book.lawful c.args.book.now) (λ t run. settled p run c.settle_period.ensures.does)
