-- That the accounts add up: what every run comes to, by its tally alone.
use Rattle.std.specs.Prelude.{◌≡◌, ℕ, ◌<◌, true, List, length, ℤ, pos, ◌-ℤ◌, ◌*ℤ◌, Ok, slice_index_or}
use Rattle.std.specs.Option.{unwrap_or}
use Rattle.charging.specs.Charge.{charge}
use Rattle.energy.specs.Meaning.{Meaning}
use Rattle.ledger.specs.declared.entries.Account.{Account}
use Rattle.ledger.specs.Calls.{Draws, Lists}
use Rattle.ledger.specs.Energies.{Sharing, schedule_line, reading_line, x_of, y_of}
use Rattle.ledger.specs.Invoices.{sum_below, money_of}
use Rattle.ledger.specs.Judgement.{Held, nothing, periods_of}
use Rattle.posting.specs.declared.posting.Opening.{Opening}
use Rattle.sharing.specs.Law.{FromZeroTo}
use Rattle.settlement.specs.Runs.{Run}
use Rattle.settlement.specs.Tally.{Tally, over_settled}

module _ (o : Opening) (rule : Sharing) (t : Tally) where
  -- by the last accepted postings: the imbalance of member i in period p, and what the rule leaves of it
  abbrev pub x : ℕ → ℕ → ℤ
  x p i = x_of o t.energies p i

  abbrev pub y : ℕ → ℕ → ℤ
  y p i = y_of o rule t.energies p i

  abbrev pub price_in : ℕ → ℤ
  price_in p = unwrap_or (t.prices p) (pos 0)

  abbrev pub net_imbalance : ℕ → ℤ
  net_imbalance p = sum_below o.members (x p)

  -- Each account is the sum over the settled periods of what was netted inside, of what was left outside and of the charge
  -- for both; and the members' money totals the operator's bill: price times net imbalance, over those periods.
  pub record AddsUp (accounts : List Account) : Type 0 where
    pub one_each : length accounts ≡ o.members
    pub inside : (i : ℕ) → i < o.members → (slice_index_or accounts i nothing).inside_kwh ≡ over_settled o t (λ p. x p i -ℤ y p i)
    pub outside : (i : ℕ) → i < o.members → (slice_index_or accounts i nothing).outside_kwh ≡ over_settled o t (λ p. y p i)
    pub money : (i : ℕ) → i < o.members → (slice_index_or accounts i nothing).money ≡ over_settled o t (λ p. charge o.internal_price (price_in p) (x p i -ℤ y p i) (y p i))
    pub bill : sum_below o.members (money_of accounts) ≡ over_settled o t (λ p. price_in p *ℤ net_imbalance p)

  -- In a sheet the netted energies sum to zero; a member's outside energy is what the rule leaves of his imbalance, and his
  -- netted energy the remainder; neither exceeds the imbalance or has the opposite sign.
  pub record Balanced (p : ℕ) (drawn : Lists) : Type 0 where
    pub nets_to_zero : sum_below o.members (λ i. slice_index_or drawn.inside i (pos 0)) ≡ pos 0
    pub outside_is : (i : ℕ) → i < o.members → slice_index_or drawn.outside i (pos 0) ≡ y p i
    pub inside_is : (i : ℕ) → i < o.members → slice_index_or drawn.inside i (pos 0) ≡ x p i -ℤ y p i
    pub outside_fits : (i : ℕ) → i < o.members → FromZeroTo (x p i) (slice_index_or drawn.outside i (pos 0))
    pub inside_fits : (i : ℕ) → i < o.members → FromZeroTo (x p i) (slice_index_or drawn.inside i (pos 0))

-- the same periods stand settled on the same last accepted postings
pub record SameSettled (o : Opening) (t u : Tally) : Type 0 where
  pub same_periods : (p : ℕ) → p < periods_of o → t.settled p ≡ u.settled p
  pub same_prices : (p : ℕ) → p < periods_of o → t.settled p ≡ true → t.prices p ≡ u.prices p
  pub same_schedules : (p i : ℕ) → p < periods_of o → i < o.members → t.settled p ≡ true → t.energies (schedule_line i) p ≡ u.energies (schedule_line i) p
  pub same_readings : (p i : ℕ) → p < periods_of o → i < o.members → t.settled p ≡ true → t.energies (reading_line i) p ≡ u.energies (reading_line i) p

-- The theorem, of a rule and two books: the accounts of every run add up, every sheet of a run balances, and two runs over
-- the two books hold the same accounts if the same periods stand settled on the same postings.
pub record AccountsAddUp (rule : Sharing) (m n : Meaning) : Type 0 where
  pub accounts : (o : Opening) (t : Tally) (L : Held) → Run o rule t L m → AddsUp o rule t L.accounts
  pub sheets : (o : Opening) (t : Tally) (L : Held) → Run o rule t L m → (p : ℕ) (out drawn : Lists) → Draws o rule L m p (Ok tt) out drawn → Balanced o rule t p drawn
  pub same_postings : (o : Opening) (t u : Tally) (L K : Held) → Run o rule t L m → Run o rule u K n → SameSettled o t u → L.accounts ≡ K.accounts
