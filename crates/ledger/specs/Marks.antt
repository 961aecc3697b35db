-- What happens to a period, and what its mark makes of it.
use Rattle.std.specs.Prelude.{cond, ℤ, Some, None, Ok, Err, Option, Result, nat_le, unsigned_abs}
use Rattle.refusal.specs.declared.reason.Reason.{Reason}
use Rattle.refusal.specs.declared.reason.Reason.TheVariants.{PeriodSettled, PeriodNotSettled, FigureOutOfRange, NoPrice}
use Rattle.refusal.specs.declared.refused.Refusal.{Refusal}
use Rattle.pricing.specs.Limits.{price_limit}
use Rattle.refusal.specs.declared.concern.Concern.{Concern}
use Rattle.ledger.specs.declared.entries.Mark.{Mark}
use Rattle.ledger.specs.declared.entries.Mark.TheVariants.{Unpriced, Priced, Settled}
use Rattle.ledger.specs.declared.marks.Event.{Event}
use Rattle.ledger.specs.declared.marks.Event.TheVariants.{Energy, Price, Settle, Reopen}
use Rattle.ledger.specs.declared.marks.Turn.{Turn}
use Rattle.ledger.specs.declared.marks.Turn.TheVariants.{Settling, Reopening}
use Rattle.ledger.specs.Answers.{refused}

abbrev pub price_at : Mark → Option ℤ
price_at Unpriced = None
price_at (Priced price) = Some price
price_at (Settled price) = Some price

-- a price as it is offered: the price, or why there is none
abbrev pub Offer : Type 0
Offer = Result ℤ Reason

-- the offer of a published price
abbrev pub published : ℤ → Offer
published price = cond (nat_le (unsigned_abs price) price_limit) (Ok price) (Err FigureOutOfRange)

abbrev pub priced_by : Concern → Offer → Result Mark Refusal
priced_by who (Ok price) = Ok (Priced price)
priced_by who (Err why) = Err (refused who why)

-- the mark that an event gives a period, or why it cannot be; a settled period refuses a price before the price is looked at
abbrev pub advanced : Concern → Mark → Event → Result Mark Refusal
advanced who Unpriced Energy = Ok Unpriced
advanced who (Priced price) Energy = Ok (Priced price)
advanced who (Settled _) Energy = Err (refused who PeriodSettled)
advanced who Unpriced (Price offer) = priced_by who offer
advanced who (Priced _) (Price offer) = priced_by who offer
advanced who (Settled _) (Price _) = Err (refused who PeriodSettled)
advanced who Unpriced Settle = Err (refused who NoPrice)
advanced who (Priced price) Settle = Ok (Settled price)
advanced who (Settled _) Settle = Err (refused who PeriodSettled)
advanced who Unpriced Reopen = Err (refused who PeriodNotSettled)
advanced who (Priced _) Reopen = Err (refused who PeriodNotSettled)
advanced who (Settled price) Reopen = Ok (Priced price)

-- the two ways to turn a period over
abbrev pub event_of : Turn → Event
event_of Settling = Settle
event_of Reopening = Reopen
