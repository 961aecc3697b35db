-- Reopening is a step of every run, and undoes a settling just before.
use Rattle.settlement.specs.Runs.{reopened}
use Rattle.settlement.specs.Tally.{reopen}
use Rattle.settlement.proofs.Ranges.{goes_on}
use Rattle.settlement.proofs.Undoing.{undoes}
use Rattle.settlement.proofs.settling.reopen.Goals as goal

pub returns-clause-goes_on : goal.returns-clause-goes_on
returns-clause-goes_on g c =
    let p = c.args.period in
    let rule = c.args.rule.now in
    goes_on _ (g.R.SharingRule.meaning rule) (g.met.R.SharingRule.lawful rule) (reopen p) c.reopen_period.result (g.met.B.Book.lawful c.args.book.now) (λ t run. reopened p run c.reopen_period.ensures.does)

pub returns-clause-undoes : goal.returns-clause-undoes
returns-clause-undoes g c =
    let rule = c.args.rule.now in
    undoes _ (g.R.SharingRule.meaning rule) (g.met.R.SharingRule.lawful rule) (g.B.Book.meaning c.args.book.now) (g.met.B.Book.lawful c.args.book.now) c.args.period c.reopen_period.result _ _ c.reopen_period.ensures.does
