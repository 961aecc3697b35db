-- The rests from member i on are as they were, and those before him are written.
use Rattle.std.proofs.Common.{◌≡◌, ◌++◌, take, drop}
use Rattle.sharing.specs.Netting.{taken_off}
use Rattle.sharing.proofs.netting.take_off.Given as goal

abbrev pub invariant-loop-i : goal.invariant-loop-i
invariant-loop-i l =
    (drop l.i l.rests ≡ drop l.i l.initial.rests)
    × (take l.i l.rests ++ taken_off (drop l.i l.rests) (drop l.i l.surplus) (drop l.i l.shortage) ≡ taken_off l.initial.rests l.surplus l.shortage)
