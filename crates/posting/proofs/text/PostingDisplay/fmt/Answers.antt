-- Figures are written behind their period.
use Rattle.posting.proofs.text.PostingDisplay.fmt.Goals as goal

pub returns-in-Figures-clause-writes : goal.returns-in-Figures-clause-writes
returns-in-Figures-clause-writes g c = rw c.in-Figures.is c.write-in-Figures.ensures.writes
