-- The entries passed are in range, so those to come decide.
use Rattle.std.proofs.Common.{◌≡◌, drop}
use Rattle.ledger.specs.Judgement.{every}
use Rattle.ledger.proofs.judgement.all_in_range.Given as goal

abbrev pub invariant-loop-entry : goal.invariant-loop-entry
invariant-loop-entry g l = every g.E.Entry.fits (drop l.entry-index l.entries) ≡ every g.E.Entry.fits l.entries
