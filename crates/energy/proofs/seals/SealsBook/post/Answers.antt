-- What the layer lets through does to the book under it what it does to the book below.
use Rattle.std.proofs.Common.{sym, ap, ◌∙◌}
use Rattle.energy.specs.Layers.{under_seals}
use Rattle.energy.proofs.Layering.{seals_outcome}
use Rattle.energy.proofs.seals.SealsBook.post.Goals as goal

pub returns-clause-after : goal.returns-clause-after
returns-clause-after g c =
    let days = c.args.self.now.days in
    let m = g.B.Book.meaning c.args.self.now.below in
    ap (under_seals days) c.post.ensures.after
    ∙ seals_outcome days m c.args.line c.args.period c.args.kwh (sym c.if-sealed_own.ensures)
