-- Which figures, ledgers and books a call takes. Every later call of a run judges all of them anew.
use Rattle.std.specs.Prelude.{◌≡◌, ℕ, ◌*◌, ◌/◌, ◌^◌, ◌<◌, ◌≤◌, Bool, true, ◌&&◌, List, [], ◌∷◌, length, ℤ, pos, ◌==◌, nat_le, slice_index_or, unsigned_abs}
use Rattle.refusal.specs.declared.reason.Reason.TheVariants.{WrongLength, LedgerOutOfRange, BookTooSmall, OutsideLimits}
use Rattle.charging.specs.Limits.{internal_price_limit}
use Rattle.energy.specs.Limits.{most_days, periods_per_day}
use Rattle.energy.specs.Meaning.{Meaning}
use Rattle.posting.specs.declared.posting.Opening.{Opening}
use Rattle.pricing.specs.Limits.{price_limit}
use Rattle.sharing.specs.Verdict.{most_members}
use Rattle.refusal.specs.declared.concern.Concern.{Concern}
use Rattle.ledger.specs.declared.entries.Account.{Account}
use Rattle.ledger.specs.declared.entries.Ledger.{Ledger}
use Rattle.ledger.specs.declared.entries.Mark.{Mark}
use Rattle.ledger.specs.declared.entries.Mark.TheVariants.{Unpriced, Priced, Settled}
use Rattle.ledger.specs.Answers.{Answer, refused, unless, ◌then◌}

-- ---- what a ledger holds

pub record Held : Type 0 where
  pub marks : List Mark
  pub accounts : List Account

abbrev pub held : List Mark → List Account → Held
held marks accounts = record { marks = marks; accounts = accounts }

abbrev pub held_in : Ledger → Held
held_in l = held l.marks.now l.accounts.now

-- the ledger is still that of its run and of the memory that was lent for it, so that its lender finds there what the ledger holds
pub record SameMemory (before after : Ledger) : Type 0 where
  pub of_figures : after.opening ≡ before.opening
  pub of_marks : after.marks.ghost_name ≡ before.marks.ghost_name
  pub of_accounts : after.accounts.ghost_name ≡ before.accounts.ghost_name

-- an account before anything is settled
abbrev pub nothing : Account
nothing = record { inside_kwh = pos 0; outside_kwh = pos 0; money = pos 0 }

-- ---- the limits of a run

-- how many periods a run has; they are numbered from 0 over all its days
abbrev pub periods_of : Opening → ℕ
periods_of o = o.days * periods_per_day

-- far above what the periods of a run can bring a member, and far below what 64 bits hold
abbrev pub account_kwh_limit : ℕ
account_kwh_limit = 10 ^ 10

abbrev pub account_money_limit : ℕ
account_money_limit = 10 ^ 17

abbrev pub within : ℕ → ℤ → Bool
within limit z = nat_le (unsigned_abs z) limit

abbrev pub account_in_range : Account → Bool
account_in_range a =
    within account_kwh_limit a.inside_kwh && (within account_kwh_limit a.outside_kwh && within account_money_limit a.money)

abbrev pub mark_in_range : Mark → Bool
mark_in_range Unpriced = true
mark_in_range (Priced price) = within price_limit price
mark_in_range (Settled price) = within price_limit price

-- ---- the tests

abbrev pub every : {X : Type 0} → (X → Bool) → List X → Bool
every p [] = true
every p (x ∷ xs) = p x && every p xs

abbrev pub lengths_fit : Opening → Held → Bool
lengths_fit o L = length L.marks == periods_of o && length L.accounts == o.members

abbrev pub in_range : Held → Bool
in_range L = every account_in_range L.accounts && every mark_in_range L.marks

-- a book has two lines for each member, and every period
abbrev pub book_fits : Opening → Meaning → Bool
book_fits o m = nat_le (2 * o.members) m.lines && nat_le (periods_of o) m.periods

abbrev pub count_fits : ℕ → ℕ → Bool
count_fits most n = nat_le 1 n && nat_le n most

-- no bit of the set is at the number of members or above it
abbrev pub consumers_fit : Opening → Bool
consumers_fit o = o.consumers / 2 ^ o.members == 0

abbrev pub figures_fit : Opening → Bool
figures_fit o =
    count_fits most_members o.members && (count_fits most_days o.days && (consumers_fit o && within internal_price_limit o.internal_price))

-- ---- the judgement, in the order of the reasons' numbers

abbrev pub ledger_verdict : Concern → Opening → Held → Answer
ledger_verdict who o L =
    unless (lengths_fit o L) (refused who WrongLength) then unless (in_range L) (refused who LedgerOutOfRange)

abbrev pub size_verdict : Concern → Opening → Meaning → Answer
size_verdict who o m = unless (book_fits o m) (refused who BookTooSmall)

abbrev pub figures_verdict : Concern → Opening → Answer
figures_verdict who o = unless (figures_fit o) (refused who OutsideLimits)

-- of a call that is given no book
abbrev pub judged : Concern → Opening → Held → Answer
judged who o L = ledger_verdict who o L then figures_verdict who o

-- of a call that is given one
abbrev pub judged_with_book : Concern → Opening → Held → Meaning → Answer
judged_with_book who o L m = ledger_verdict who o L then (size_verdict who o m then figures_verdict who o)

-- ---- what the judgement has shown, as facts

-- an account to which a period can still be booked
pub record Roomy (a : Account) : Type 0 where
  pub inside : unsigned_abs a.inside_kwh ≤ account_kwh_limit
  pub outside : unsigned_abs a.outside_kwh ≤ account_kwh_limit
  pub money : unsigned_abs a.money ≤ account_money_limit

pub record Judged (o : Opening) (L : Held) : Type 0 where
  pub a_mark_each : length L.marks ≡ periods_of o
  pub an_account_each : length L.accounts ≡ o.members
  pub few_members : o.members ≤ most_members
  pub small_price : unsigned_abs o.internal_price ≤ internal_price_limit
  pub roomy : (i : ℕ) → i < length L.accounts → Roomy (slice_index_or L.accounts i nothing)
  pub small_prices : (p : ℕ) → p < length L.marks → mark_in_range (slice_index_or L.marks p Unpriced) ≡ true
