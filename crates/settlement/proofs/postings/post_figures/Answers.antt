-- Figures that give a price are a step of every run, over every book.
use Rattle.settlement.specs.Runs.{figured}
use Rattle.settlement.specs.Tally.{post_figures}
use Rattle.settlement.proofs.Ranges.{goes_on}
use Rattle.settlement.proofs.postings.post_figures.Goals as goal

pub returns-clause-goes_on : goal.returns-clause-goes_on
returns-clause-goes_on c =
    let p = c.args.period in
    let f = c.args.figures.now in
    λ m lawful rule law. goes_on _ rule law (post_figures p f) c.enter_figures.result lawful (λ t run. figured p f run c.enter_figures.ensures.does)
