-- A reading that the book takes is a step of every run.
use Rattle.settlement.specs.Runs.{metered}
use Rattle.settlement.specs.Tally.{post_reading}
use Rattle.settlement.proofs.Ranges.{goes_on}
use Rattle.settlement.proofs.postings.post_reading.Goals as goal

pub returns-clause-goes_on : goal.returns-clause-goes_on
returns-clause-goes_on g c =
    let lawful = g.met.B.Book.lawful c.enter_reading.new.book in
    λ rule law. goes_on _ rule law (post_reading c.args.energy) c.enter_reading.result lawful (λ t run. metered c.args.energy run c.enter_reading.ensures)
