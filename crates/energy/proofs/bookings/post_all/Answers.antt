use Rattle.std.proofs.Common.{sym, ◌∙◌, subst}
use Rattle.std.proofs.lemmas.List.{at_drop_all}
use Rattle.energy.specs.Bookings.{after_all, accepted, KeepsTheLast}
use Rattle.energy.proofs.Histories.{keeps_the_last}
use Rattle.energy.proofs.bookings.post_all.Goals as goal

pub returns-clause-last : goal.returns-clause-last
returns-clause-last g c =
    let m = g.B.Book.meaning c.args.book.now in
    let bookings = c.args.bookings.now in
    let after =
    sym (at_drop_all (after_all (g.B.Book.meaning c.loop-booking.book)) bookings c.loop-booking.booking-index c.loop-booking-test.false) ∙ c.loop-booking.invariant.1 in
    subst (KeepsTheLast m (accepted m bookings)) (sym after) (keeps_the_last m bookings)
