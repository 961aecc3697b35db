-- What each call of a run answers, and what it does to ledger, book or lists.
use Rattle.std.specs.Prelude.{◌≡◌, ℕ, ◌<◌, ◌≤◌, ◌&&◌, List, length, replicate, ℤ, pos, ◌+ℤ◌, ◌-ℤ◌, is_some, Some, Ok, Err, Result, nat_le, nat_lt, slice_index_or, slice_set}
use Rattle.refusal.specs.declared.reason.Reason.TheVariants.{WrongLength, NoSuchMember, NoSuchPeriod, NoPrice, OutputTooShort}
use Rattle.refusal.specs.declared.refused.Refusal.{Refusal}
use Rattle.energy.specs.Meaning.{Meaning, book_verdict, posted}
use Rattle.posting.specs.declared.posting.MemberEnergy.{MemberEnergy}
use Rattle.posting.specs.declared.posting.Opening.{Opening}
use Rattle.refusal.specs.declared.concern.Concern.{Concern}
use Rattle.ledger.specs.declared.entries.Account.{Account}
use Rattle.ledger.specs.declared.entries.Mark.{Mark}
use Rattle.ledger.specs.declared.entries.Mark.TheVariants.{Unpriced, Priced, Settled}
use Rattle.ledger.specs.declared.marks.Event.{Event}
use Rattle.ledger.specs.declared.marks.Event.TheVariants.{Energy, Price}
use Rattle.ledger.specs.declared.marks.Turn.{Turn}
use Rattle.ledger.specs.declared.marks.Turn.TheVariants.{Settling, Reopening}
use Rattle.refusal.specs.Numbers.{nobody, concern, of_period}
use Rattle.ledger.specs.Answers.{Answer, refused, unless, ◌then◌}
use Rattle.ledger.specs.Energies.{Energies, Sharing, all_known, gain, schedule_line, reading_line, x_of, y_of}
use Rattle.ledger.specs.Judgement.{Held, nothing, periods_of, lengths_fit, figures_verdict, judged, judged_with_book}
use Rattle.ledger.specs.Marks.{Offer, advanced, event_of, price_at}

-- ---- every call

-- A call answers by its verdict; an accepted one does its deed, and a refused one leaves everything as it was.
abbrev pub Outcome : {S : Type 0} → (S → S → Type 0) → Answer → S → S → Type 0
Outcome deed (Ok _) before after = deed before after
Outcome deed (Err _) before after = after ≡ before

pub record Does {S : Type 0} (verdict : Answer) (deed : S → S → Type 0) (r : Answer) (before after : S) : Type 0 where
  pub answer : r ≡ verdict
  pub outcome : Outcome deed r before after

abbrev pub member_verdict : Concern → Opening → ℕ → Answer
member_verdict who o i = unless (nat_lt i o.members) (refused who NoSuchMember)

abbrev pub period_verdict : Concern → Opening → ℕ → Answer
period_verdict who o p = unless (nat_lt p (periods_of o)) (refused who NoSuchPeriod)

-- the mark that an event gives a period, if the run has the period and its mark allows it
abbrev pub next_mark : Concern → Opening → List Mark → ℕ → Event → Result Mark Refusal
next_mark who o marks p event = period_verdict who o p then advanced who (slice_index_or marks p Unpriced) event

-- ---- opening

abbrev pub open_verdict : Opening → Held → Answer
open_verdict o L = figures_verdict nobody o then unless (lengths_fit o L) (refused nobody WrongLength)

-- unpriced marks and empty accounts
abbrev pub new_ledger : Opening → Held
new_ledger o = record { marks = replicate (periods_of o) Unpriced; accounts = replicate o.members nothing }

abbrev pub Opens : Opening → Answer → Held → Held → Type 0
Opens o r L L' = Does (open_verdict o L) (λ _ after. after ≡ new_ledger o) r L L'

-- ---- posting a schedule or a reading

-- after the judgement: the period must not be settled, and then the book decides
abbrev pub energy_verdict : Opening → Held → Meaning → MemberEnergy → ℕ → Answer
energy_verdict o L m e line =
    let who = concern e.member e.period in
    member_verdict who o e.member then (next_mark who o L.marks e.period Energy then book_verdict m line e.period e.kwh)

abbrev pub Posts : Opening → Held → MemberEnergy → ℕ → Answer → Meaning → Meaning → Type 0
Posts o L e line r m n =
    Does (judged_with_book (concern e.member e.period) o L m then energy_verdict o L m e line)
    (λ before after. after ≡ posted before line e.period e.kwh) r m n

abbrev pub PostsSchedule : Opening → Held → MemberEnergy → Answer → Meaning → Meaning → Type 0
PostsSchedule o L e r m n = Posts o L e (schedule_line e.member) r m n

abbrev pub PostsReading : Opening → Held → MemberEnergy → Answer → Meaning → Meaning → Type 0
PostsReading o L e r m n = Posts o L e (reading_line e.member) r m n

-- ---- posting a price, or figures that give one

abbrev pub price_verdict : Opening → Held → ℕ → Offer → Answer
price_verdict o L p offer = next_mark (of_period p) o L.marks p (Price offer) then Ok tt

-- the period is priced as offered
pub record PricedAs (p : ℕ) (offer : Offer) (before after : Held) : Type 0 where
  pub price : ℤ
  pub offered : offer ≡ Ok price
  pub marks_after : after.marks ≡ slice_set before.marks p (Priced price)
  pub accounts_after : after.accounts ≡ before.accounts

abbrev pub Prices : Opening → ℕ → Offer → Answer → Held → Held → Type 0
Prices o p offer r L L' = Does (judged (of_period p) o L then price_verdict o L p offer) (PricedAs p offer) r L L'

-- ---- settling and reopening

abbrev pub turn_verdict : Opening → Held → Energies → ℕ → Turn → Answer
turn_verdict o L E p turn = next_mark (of_period p) o L.marks p (event_of turn) then all_known o.members E p

abbrev pub turned_mark : Turn → ℤ → Mark
turned_mark Settling price = Settled price
turned_mark Reopening price = Priced price

-- what a period brings is added to an account, or taken off it
abbrev pub booked : Turn → Account → Account → Account
booked Settling a g = record {
  inside_kwh = a.inside_kwh +ℤ g.inside_kwh;
  outside_kwh = a.outside_kwh +ℤ g.outside_kwh;
  money = a.money +ℤ g.money;
}
booked Reopening a g = record {
  inside_kwh = a.inside_kwh -ℤ g.inside_kwh;
  outside_kwh = a.outside_kwh -ℤ g.outside_kwh;
  money = a.money -ℤ g.money;
}

pub record Booked (turn : Turn) (gains : ℕ → Account) (before after : List Account) : Type 0 where
  pub same_length : length after ≡ length before
  pub each : (i : ℕ) → i < length before → slice_index_or after i nothing ≡ booked turn (slice_index_or before i nothing) (gains i)

-- the period keeps its price, and every account is booked what the period brings its member at that price
pub record Turned (o : Opening) (rule : Sharing) (E : Energies) (p : ℕ) (turn : Turn) (before after : Held) : Type 0 where
  pub price : ℤ
  pub at_price : price_at (slice_index_or before.marks p Unpriced) ≡ Some price
  pub marks_after : after.marks ≡ slice_set before.marks p (turned_mark turn price)
  pub accounts_after : Booked turn (gain o rule E p price) before.accounts after.accounts

abbrev pub Turns : Opening → Sharing → Meaning → ℕ → Turn → Answer → Held → Held → Type 0
Turns o rule m p turn r L L' =
    Does (judged_with_book (of_period p) o L m then turn_verdict o L m.cell p turn) (Turned o rule m.cell p turn) r L L'

abbrev pub Settles : Opening → Sharing → Meaning → ℕ → Answer → Held → Held → Type 0
Settles o rule m p r L L' = Turns o rule m p Settling r L L'

abbrev pub Reopens : Opening → Sharing → Meaning → ℕ → Answer → Held → Held → Type 0
Reopens o rule m p r L L' = Turns o rule m p Reopening r L L'

-- ---- drawing a sheet

-- the two lists that a sheet is written to: what each member nets inside, and what is left outside
pub record Lists : Type 0 where
  pub inside : List ℤ
  pub outside : List ℤ

abbrev pub lists : List ℤ → List ℤ → Lists
lists ins outs = record { inside = ins; outside = outs }

-- the first n entries are those of f, and the others stay
pub record Written (n : ℕ) (f : ℕ → ℤ) (before after : List ℤ) : Type 0 where
  pub same_length : length after ≡ length before
  pub entries : (i : ℕ) → i < n → slice_index_or after i (pos 0) ≡ f i
  pub others : (i : ℕ) → n ≤ i → slice_index_or after i (pos 0) ≡ slice_index_or before i (pos 0)

abbrev pub draw_verdict : Opening → Held → Energies → ℕ → Lists → Answer
draw_verdict o L E p out =
    period_verdict (of_period p) o p then (unless (is_some (price_at (slice_index_or L.marks p Unpriced))) (refused (of_period p) NoPrice)
    then (all_known o.members E p
    then unless (nat_le o.members (length out.inside) && nat_le o.members (length out.outside)) (refused (of_period p) OutputTooShort)))

pub record Drawn (o : Opening) (rule : Sharing) (E : Energies) (p : ℕ) (before after : Lists) : Type 0 where
  pub inside_is : Written o.members (λ i. x_of o E p i -ℤ y_of o rule E p i) before.inside after.inside
  pub outside_is : Written o.members (y_of o rule E p) before.outside after.outside

abbrev pub Draws : Opening → Sharing → Held → Meaning → ℕ → Answer → Lists → Lists → Type 0
Draws o rule L m p r out out' =
    Does (judged_with_book (of_period p) o L m then draw_verdict o L m.cell p out) (Drawn o rule m.cell p) r out out'
