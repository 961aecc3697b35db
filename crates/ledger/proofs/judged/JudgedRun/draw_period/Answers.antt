-- The book keeps every energy within the limit, so that the sheet is drawn.
use Rattle.std.proofs.Common.{◌∙◌, arith, w32, SFits}
use Rattle.std.proofs.lemmas.Int.{ints, to_z-of_z}
use Rattle.ledger.proofs.Known.{drawn_period}
use Rattle.ledger.proofs.judged.JudgedRun.draw_period.Goals as goal

pub returns-clause-answer : goal.returns-clause-answer
returns-clause-answer g c =
    let run = c.args.self.now in
    let book = c.args.book.now in
    let listed = c.in_ok-positions.ensures in
    let fits : SFits w32 run.opening.internal_price = omega (arith, ints, run.judged.small_price) in
    let drawn = drawn_period run.opening (g.B.Book.meaning book).cell c.args.period run.judged.few_members (g.met.B.Book.lawful book).small_cells
    (g.R.SharingRule.meaning c.args.rule.now) c.args.price _ _ c.as_slice.result.now c.args.lines.now c.draw.new.lines c.draw.result
    run.judged.small_price c.requires.priced c.requires.room (to_z-of_z w32 _ fits) (to_z-of_z w32 _ c.ranges.price)
    (c.as_slice.ensures.value ∙ listed.listed) c.draw.ensures.answer c.draw.ensures.after in
    drawn.0 ∙ listed.answer
