-- A schedule that the book takes is a step of every run.
use Rattle.settlement.specs.Runs.{scheduled}
use Rattle.settlement.specs.Tally.{post_schedule}
use Rattle.settlement.proofs.Ranges.{goes_on}
use Rattle.settlement.proofs.postings.post_schedule.Goals as goal

pub returns-clause-goes_on : goal.returns-clause-goes_on
returns-clause-goes_on g c =
    let lawful = g.met.B.Book.lawful c.enter_schedule.new.book in
    λ rule law. goes_on _ rule law (post_schedule c.args.energy) c.enter_schedule.result lawful (λ t run. scheduled c.args.energy run c.enter_schedule.ensures)
