-- The parts of the report, one after another.
use Rattle.std.proofs.Common.{Some, w32, SFits, rules}
use Rattle.std.proofs.lemmas.Int.{to_z-of_z}
use Rattle.explanation.specs.Words.{scaling_text}
use Rattle.explanation.proofs.IfAny.{part_text}
use Rattle.explanation.proofs.report.PricePartDisplay.fmt.Goals as goal

pub returns-in-Decided-clause-writes : goal.returns-in-Decided-clause-writes
returns-in-Decided-clause-writes g c =
    let fits : SFits w32 c.in-Decided.price = search rules in
    let scaled = part_text scaling_text (λ l. Some (scaling_text l.0)) c.in-Decided.candidates.scaled c.map.result c.map.ensures.cases (λ x y q. search rules) in
    rw c.in-Decided.is (simp to_z-of_z at (rw scaled at c.write-in-Decided.ensures.writes))
