-- The fraction, and its rounding where there is one.
use Rattle.std.proofs.Common.{Some, w64, SFits, rules}
use Rattle.std.proofs.lemmas.Int.{to_z-of_z}
use Rattle.explanation.specs.Words.{rounding_text}
use Rattle.explanation.proofs.IfAny.{part_text}
use Rattle.explanation.proofs.report.ExactDisplay.fmt.Goals as goal

pub returns-clause-writes : goal.returns-clause-writes
returns-clause-writes g c =
    let fits : SFits w64 c.args.self.now.0.numerator = search rules in
    let rounded = part_text rounding_text (λ r. Some (rounding_text r.0)) c.rounded.result c.map.result c.map.ensures.cases (λ x y q. search rules) in
    simp (to_z-of_z, c.rounded.ensures) at (rw rounded at c.write.ensures.writes)
