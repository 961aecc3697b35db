-- The number of each reason, and the refusals that calls give.
use Rattle.std.specs.Prelude.{ℕ, ◌/◌, cond, Some, None, Option, nat_lt}
use Rattle.refusal.specs.declared.concern.Concern.{Concern}
use Rattle.refusal.specs.declared.layer.Layer.{Layer}
use Rattle.refusal.specs.declared.reason.Reason.{Reason}
use Rattle.refusal.specs.declared.reason.Reason.TheVariants.{WrongLength, LedgerOutOfRange, BookTooSmall, OutsideLimits, NoSuchMember, NoSuchPeriod, PeriodSettled, PeriodNotSettled, FigureOutOfRange, NoBase, NoPrice, EnergyMissing, NoSuchLine, Sealed, AboveCeiling, Full, UnknownVersion, CutShort, BadRecord, OutputTooShort}
use Rattle.refusal.specs.declared.refused.Refusal.{Refusal}

abbrev pub number_of : Reason → ℕ
number_of WrongLength = 1
number_of LedgerOutOfRange = 2
number_of BookTooSmall = 3
number_of OutsideLimits = 4
number_of NoSuchMember = 5
number_of NoSuchPeriod = 6
number_of PeriodSettled = 7
number_of PeriodNotSettled = 8
number_of FigureOutOfRange = 9
number_of NoBase = 10
number_of NoPrice = 11
number_of EnergyMissing = 12
number_of NoSuchLine = 13
number_of Sealed = 14
number_of AboveCeiling = 15
number_of Full = 16
number_of UnknownVersion = 17
number_of CutShort = 18
number_of BadRecord = 19
number_of OutputTooShort = 20

-- no group has so many members, and no run so many periods: who is handed such a number is handed none
abbrev pub no_member : ℕ
no_member = 64

abbrev pub no_period : ℕ
no_period = 65535

-- a number is named only below its limit
abbrev pub named : ℕ → ℕ → Option ℕ
named limit number = cond (nat_lt number limit) (Some number) None

-- whom a call concerns
abbrev pub concern : ℕ → ℕ → Concern
concern member period = record { member = named no_member member; period = named no_period period }

abbrev pub of_member : ℕ → Concern
of_member member = record { member = named no_member member; period = None }

abbrev pub of_period : ℕ → Concern
of_period period = record { member = None; period = named no_period period }

abbrev pub nobody : Concern
nobody = record { member = None; period = None }

-- the refusal of a call by a layer
abbrev pub refused : Concern → Reason → Layer → Refusal
refused whom why who = record { reason = why; layer = who; concern = whom; place = None }

-- a refusal that names a member and a period
abbrev pub concerning : Reason → Layer → ℕ → ℕ → Refusal
concerning why who member period = refused (concern member period) why who

-- a refusal at a cell of a book: lines 2i and 2i + 1 are those of member i
abbrev pub at_cell : Reason → Layer → ℕ → ℕ → Refusal
at_cell why who line period = concerning why who (line / 2) period

-- a refusal that names neither member nor period
abbrev pub naming_nobody : Reason → Layer → Refusal
naming_nobody why who = refused nobody why who

-- the same refusal, of a record whose length stands at this byte of a file
abbrev pub at_place : Refusal → ℕ → Refusal
at_place r place = record { reason = r.reason; layer = r.layer; concern = r.concern; place = Some place }
