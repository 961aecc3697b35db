-- The list is written up to member i, and the energies of the members from i on are to come.
use Rattle.std.proofs.Common.{◌≡◌, ◌++◌, take, drop}
use Rattle.sharing.specs.Rests.{energies_from, energies}
use Rattle.sharing.proofs.side.Side.list.Given as goal

abbrev pub invariant-loop-i : goal.invariant-loop-i
invariant-loop-i l = take l.i l.own ++ energies_from l.i l.self l.set (drop l.i l.rests) ≡ energies l.self l.set l.rests
