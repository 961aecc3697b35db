-- What each call promises of runs, beside what it does.
use Rattle.std.specs.Prelude.{◌≡◌, ℕ, true, is_ok, Ok, Err}
use Rattle.energy.specs.Meaning.{Meaning, Lawful}
use Rattle.ledger.specs.Answers.{Answer}
use Rattle.ledger.specs.Calls.{Settles}
use Rattle.ledger.specs.Energies.{LawfulRule, Sharing}
use Rattle.ledger.specs.Judgement.{Held, figures_fit, lengths_fit, in_range}
use Rattle.posting.specs.declared.posting.Opening.{Opening}
use Rattle.settlement.specs.Accounts.{AddsUp}
use Rattle.settlement.specs.Runs.{Run, EmptyBook}
use Rattle.settlement.specs.Tally.{Tally, Call, empty, fed}

-- a ledger that no later call refuses: its lengths, the range of all it holds, and the figures pass
pub record Passes (o : Opening) (L : Held) : Type 0 where
  pub lengths : lengths_fit o L ≡ true
  pub range : in_range L ≡ true
  pub figures : figures_fit o ≡ true

-- a run whose accounts add up, and whose ledger stays in range
pub record Sound (o : Opening) (rule : Sharing) (t : Tally) (L : Held) (m : Meaning) : Type 0 where
  pub run : Run o rule t L m
  pub adds_up : AddsUp o rule t L.accounts
  pub in_range : Passes o L

-- a call takes every run to a sound run of the tally that was fed the call
abbrev pub GoesOn : Opening → Sharing → Call → Answer → Held → Meaning → Held → Meaning → Type 0
GoesOn o rule call r L m K n = (t : Tally) → Run o rule t L m → Sound o rule (fed t call (is_ok r)) K n

-- the same of a call that is given no rule: under every rule
abbrev pub GoesOnByAnyRule : Opening → Call → Answer → Held → Meaning → Held → Meaning → Type 0
GoesOnByAnyRule o call r L m K n = (rule : Sharing) → LawfulRule rule → GoesOn o rule call r L m K n

-- the same of a call that is given neither rule nor book: over every book too
abbrev pub GoesOnOverAnyBook : Opening → Call → Answer → Held → Held → Type 0
GoesOnOverAnyBook o call r L K = (m : Meaning) → Lawful m → GoesOnByAnyRule o call r L m K m

-- an accepted opening begins a sound run, under every rule and over every empty book
abbrev pub Begins : Opening → Answer → Held → Type 0
Begins o (Ok _) L = (rule : Sharing) → LawfulRule rule → (m : Meaning) → Lawful m → EmptyBook m → Sound o rule empty L m
Begins o (Err _) L = Unit {0}

-- reopening a period of a run that was settled just before is accepted, and leaves the ledger as it was before both
pub record Undone (r : Answer) (L K : Held) : Type 0 where
  pub accepted : r ≡ Ok tt
  pub back : K ≡ L

abbrev pub Undoes : Opening → Sharing → Meaning → ℕ → Answer → Held → Held → Type 0
Undoes o rule m p r between after =
    (t : Tally) (L : Held) → Run o rule t L m → Settles o rule m p (Ok tt) L between → Undone r L after
