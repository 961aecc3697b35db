-- A sheet is a step that changes nothing.
use Rattle.settlement.specs.Runs.{drawn}
use Rattle.settlement.specs.Tally.{draw_sheet}
use Rattle.settlement.proofs.Ranges.{goes_on}
use Rattle.settlement.proofs.bills.draw_sheet.Goals as goal

pub returns-clause-goes_on : goal.returns-clause-goes_on
returns-clause-goes_on g c =
    let p = c.args.period in
    let rule = c.args.rule.now in
    goes_on _ (g.R.SharingRule.meaning rule) (g.met.R.SharingRule.lawful rule) (draw_sheet p) c.write_sheet.result (g.met.B.Book.lawful c.args.book.now) (λ t run. drawn p run c.write_sheet.ensures)
