-- What is left of the list gives what the whole list gives.
use Rattle.std.proofs.Common.{◌≡◌, ◌+◌, ◌≤◌, length, drop}
use Rattle.energy.specs.Bookings.{after_all, accepted}
use Rattle.energy.proofs.bookings.post_all.Given as goal

abbrev pub invariant-loop-booking : goal.invariant-loop-booking
invariant-loop-booking g l =
    (l.count ≤ l.booking-index)
    × (after_all (g.B.Book.meaning l.book) (drop l.booking-index l.bookings) ≡ after_all (g.B.Book.meaning l.initial.book) l.bookings)
    × (l.count + length (accepted (g.B.Book.meaning l.book) (drop l.booking-index l.bookings)) ≡ length (accepted (g.B.Book.meaning l.initial.book) l.bookings))
