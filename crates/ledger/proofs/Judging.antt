-- What the judgement shows, and that a ledger with such facts passes it.
use Rattle.std.proofs.Common.{◌≡◌, ℕ, ◌≤◌, Bool, true, false, eqb, leb, length, nat_abs, Ok, Err, Result, refl, arith}
use Rattle.std.proofs.lemmas.Bool.{and_parts, and_from, leb-true, le-leb, eqb-true}
use Rattle.refusal.specs.declared.refused.Refusal.{Refusal}
use Rattle.charging.specs.Limits.{internal_price_limit}
use Rattle.energy.specs.Limits.{most_days}
use Rattle.energy.specs.Meaning.{Meaning}
use Rattle.posting.specs.declared.posting.Opening.{Opening}
use Rattle.sharing.specs.Verdict.{most_members}
use Rattle.refusal.specs.declared.concern.Concern.{Concern}
use Rattle.ledger.specs.declared.entries.Account.{Account}
use Rattle.ledger.specs.declared.entries.Mark.TheVariants.{Unpriced}
use Rattle.ledger.specs.Answers.{unless, ◌then◌}
use Rattle.ledger.specs.Judgement.{Held, Judged, Roomy, nothing, periods_of, account_in_range, mark_in_range, every, lengths_fit, count_fits, consumers_fit, figures_fit, ledger_verdict, size_verdict, judged, judged_with_book}
use Rattle.ledger.proofs.Every.{every_at}

-- ---- chains of tests

-- a chain that is passed: so is each of its parts
pub then_parts : {X Y : Type 0} (a : Result X Refusal) (b : Result Y Refusal) (y : Y) → (a then b) ≡ Ok y → (x : X) × (a ≡ Ok x) × (b ≡ Ok y)
then_parts (Ok x) b y e = (x, refl, e)
then_parts (Err r) b y e = let z : ◌≡◌ {A = ℕ} 0 1 = cc in absurd (omega arith)

pub unless_passed : (t : Bool) (e : Refusal) → unless t e ≡ Ok tt → t ≡ true
unless_passed true e h = refl
unless_passed false e h = let z : ◌≡◌ {A = ℕ} 0 1 = cc in absurd (omega arith)

-- ---- the judgement

roomy_from : (a : Account) → account_in_range a ≡ true → Roomy a
roomy_from a e =
    let inside = and_parts _ _ e in
    let others = and_parts _ _ inside.1 in
    record { inside = leb-true _ _ inside.0; outside = leb-true _ _ others.0; money = leb-true _ _ others.1 }

pub roomy_to : (a : Account) → Roomy a → account_in_range a ≡ true
roomy_to a r = and_from _ _ (le-leb _ _ r.inside) (and_from _ _ (le-leb _ _ r.outside) (le-leb _ _ r.money))

-- what figures have with which a run can be opened
pub record Fitting (o : Opening) : Type 0 where
  pub few_members : o.members ≤ most_members
  pub few_days : o.days ≤ most_days
  pub small_price : nat_abs o.internal_price ≤ internal_price_limit

pub fitting : (o : Opening) → figures_fit o ≡ true → Fitting o
fitting o e =
    let members = and_parts (count_fits most_members o.members) _ e in
    let days = and_parts (count_fits most_days o.days) _ members.1 in
    let rest = and_parts (consumers_fit o) _ days.1 in
    record {
      few_members = leb-true _ _ (and_parts (leb 1 o.members) _ members.0).1;
      few_days = leb-true _ _ (and_parts (leb 1 o.days) _ days.0).1;
      small_price = leb-true _ _ rest.1;
    }

facts : (who : Concern) (o : Opening) (L : Held) → ledger_verdict who o L ≡ Ok tt → figures_fit o ≡ true → Judged o L
facts who o L e f =
    let parts = then_parts (unless (lengths_fit o L) _) _ tt e in
    let lengths = and_parts (eqb (length L.marks) (periods_of o)) _ (unless_passed _ _ parts.1) in
    let ranges = and_parts (every account_in_range L.accounts) _ (unless_passed _ _ parts.2) in
    record {
      a_mark_each = eqb-true _ _ lengths.0;
      an_account_each = eqb-true _ _ lengths.1;
      few_members = (fitting o f).few_members;
      small_price = (fitting o f).small_price;
      roomy = λ i h. roomy_from _ (every_at account_in_range L.accounts i nothing ranges.0 h);
      small_prices = λ p h. every_at mark_in_range L.marks p Unpriced ranges.1 h;
    }

pub judged_facts : (who : Concern) (o : Opening) (L : Held) → judged who o L ≡ Ok tt → Judged o L
judged_facts who o L e =
    let parts = then_parts (ledger_verdict who o L) _ tt e in
    facts who o L parts.1 (unless_passed _ _ parts.2)

pub judged_with_book_facts : (who : Concern) (o : Opening) (L : Held) (m : Meaning) → judged_with_book who o L m ≡ Ok tt → Judged o L
judged_with_book_facts who o L m e =
    let parts = then_parts (ledger_verdict who o L) _ tt e in
    let rest = then_parts (size_verdict who o m) _ tt parts.2 in
    facts who o L parts.1 (unless_passed _ _ rest.2)
