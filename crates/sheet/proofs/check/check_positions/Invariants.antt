-- The members passed are in range, so those to come decide.
use Rattle.std.proofs.Common.{◌≡◌, drop}
use Rattle.sheet.specs.Verdict.{positions_verdict, verdict_from}
use Rattle.sheet.proofs.check.check_positions.Given as goal

abbrev pub invariant-loop-member : goal.invariant-loop-member
invariant-loop-member l = verdict_from l.member (drop l.member l.positions) ≡ positions_verdict l.positions
