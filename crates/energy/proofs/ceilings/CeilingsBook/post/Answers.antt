-- What the layer lets through does to the book under it what it does to the book below.
use Rattle.std.proofs.Common.{sym, ap, ◌∙◌}
use Rattle.energy.specs.Layers.{under_ceilings}
use Rattle.energy.proofs.Layering.{ceilings_outcome}
use Rattle.energy.proofs.ceilings.CeilingsBook.post.Goals as goal

pub returns-clause-after : goal.returns-clause-after
returns-clause-after g c =
    let own = c.args.self.now.own in
    let m = g.B.Book.meaning c.args.self.now.below in
    ap (under_ceilings own) c.post.ensures.after
    ∙ ceilings_outcome own m c.args.line c.args.period c.args.kwh (sym c.if-over_own.ensures)
