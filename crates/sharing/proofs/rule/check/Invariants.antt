-- The rests passed are in range, so the whole list is if those to come are.
use Rattle.std.proofs.Common.{◌≡◌, drop}
use Rattle.sharing.specs.Verdict.{in_range}
use Rattle.sharing.proofs.rule.check.Given as goal

abbrev pub invariant-loop-rest : goal.invariant-loop-rest
invariant-loop-rest l = in_range (drop l.rest-index l.rests) ≡ in_range l.rests
