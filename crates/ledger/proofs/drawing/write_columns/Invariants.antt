-- Both columns are written up to line i, and what stands after that is as it was.
use Rattle.std.proofs.Common.{get_or}
use Rattle.ledger.specs.Booking.{no_line}
use Rattle.ledger.specs.Calls.{Written}
use Rattle.ledger.proofs.drawing.write_columns.Given as goal

abbrev pub invariant-loop-i : goal.invariant-loop-i
invariant-loop-i l =
    Written l.i (λ i. (get_or l.lines i no_line).netted_kwh) l.initial.inside_kwh l.inside_kwh
    × Written l.i (λ i. (get_or l.lines i no_line).outside_kwh) l.initial.outside_kwh l.outside_kwh
