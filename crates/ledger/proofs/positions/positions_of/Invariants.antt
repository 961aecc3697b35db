-- The members passed have their energies, and their positions are listed.
use Rattle.std.proofs.Common.{◌≡◌, map, length, Ok}
use Rattle.std.specs.List.{range_with_len}
use Rattle.ledger.specs.Energies.{all_known, position_of}
use Rattle.ledger.proofs.positions.positions_of.Given as goal

abbrev pub invariant-loop-member : goal.invariant-loop-member
invariant-loop-member g l =
    let E = (g.B.Book.meaning l.book).cell in
    (length l.positions.items ≡ l.member)
    × (all_known l.member E l.period ≡ Ok tt)
    × (l.positions.items ≡ map (position_of l.opening E l.period) (range_with_len 0 l.member))
