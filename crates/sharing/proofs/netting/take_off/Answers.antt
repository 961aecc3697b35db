-- What is left of the rests is as it was, and so modest.
use Rattle.std.proofs.Common.{get_or, pos, arith, w32, SFits, rules}
use Rattle.std.proofs.lemmas.Int.{to_z-of_z}
use Rattle.sharing.proofs.Energies.{same_element}
use Rattle.sharing.proofs.netting.take_off.Goals as goal

pub rest_left-requires-clause-modest : goal.rest_left-requires-clause-modest
rest_left-requires-clause-modest c =
    let i = c.loop-i.i in
    let fits : SFits w32 (get_or c.loop-i.rests i (pos 0)) = search rules in
    let same = same_element c.loop-i.rests c.args.rests.now i c.loop-i.invariant.0 in
    rw (to_z-of_z w32 _ fits, same) (c.requires.modest i (omega arith))
