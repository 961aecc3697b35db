-- The ledger of every run passes the judgement, and a call takes a run to a sound one.
use Rattle.std.proofs.Common.{◌≡◌, ℕ, ◌+◌, ◌*◌, ◌<◌, ◌≤◌, true, cond, get_or, ℤ, pos, nat_abs, is_ok, Some, None, Ok, Err, Option, unwrap_or, sym, subst, mul-le-mul, arith}
use Rattle.std.proofs.lemmas.Bool.{and_from, eq-eqb}
use Rattle.charging.specs.Limits.{internal_price_limit}
use Rattle.energy.specs.Limits.{most_days, most_periods}
use Rattle.energy.specs.Meaning.{Meaning, Lawful}
use Rattle.ledger.specs.declared.entries.Mark.{Mark}
use Rattle.ledger.specs.declared.entries.Mark.TheVariants.{Unpriced}
use Rattle.ledger.specs.Answers.{Answer}
use Rattle.ledger.specs.Calls.{Opens}
use Rattle.ledger.specs.Energies.{Sharing, LawfulRule}
use Rattle.ledger.specs.Judgement.{Held, Roomy, nothing, periods_of, account_in_range, account_kwh_limit, account_money_limit, mark_in_range}
use Rattle.ledger.specs.Marks.{price_at}
use Rattle.ledger.proofs.Every.{every_from}
use Rattle.ledger.proofs.Gains.{Modest, gain_modest}
use Rattle.ledger.proofs.Judging.{fitting, roomy_to}
use Rattle.ledger.proofs.Steps.{Figure, inside, outside, money, figure, mark_small}
use Rattle.posting.specs.declared.posting.Opening.{Opening}
use Rattle.pricing.specs.Limits.{price_limit}
use Rattle.sharing.specs.Verdict.{rest_limit}
use Rattle.settlement.specs.Accounts.{price_in}
use Rattle.settlement.specs.Promises.{Passes, Sound, GoesOn, Begins}
use Rattle.settlement.specs.Runs.{Run, opened}
use Rattle.settlement.specs.Tally.{Tally, Call, fed, over_settled}
use Rattle.settlement.proofs.Stands.{Stands, due}
use Rattle.settlement.proofs.Sums.{sum_small, cond_small}
use Rattle.settlement.proofs.Adding.{run_stands, adds_up, small_energies}

-- the most that periods of this size come to
few_periods : (o : Opening) → o.days ≤ most_days → (k : ℕ) → periods_of o * k ≤ most_periods * k
few_periods o h k = let l : periods_of o ≤ most_periods = omega arith in mul-le-mul l (omega arith)

price_small : (m : Mark) (price : Option ℤ) → price_at m ≡ price → mark_in_range m ≡ true → nat_abs (unwrap_or price (pos 0)) ≤ price_limit
price_small m None e h = omega arith
price_small m (Some v) e h = mark_small m v e h

module _ (o : Opening) (rule : Sharing) (law : LawfulRule rule) (t : Tally) (L : Held) (m : Meaning) (lawful : Lawful m) (st : Stands o rule t L m) where
  modest : (p i : ℕ) → p < periods_of o → i < o.members → Modest (due o rule t p i)
  modest p i h k =
      let fits = fitting o st.figures in
      gain_modest o t.energies p fits.few_members (small_energies o rule law t L m lawful st) rule law (price_in o rule t p) fits.small_price
      (price_small (get_or L.marks p Unpriced) (t.prices p) (st.prices p h) (st.small_prices p h)) i k

  summed : (k : ℕ) (f : ℕ → ℤ) → ((p : ℕ) → p < periods_of o → nat_abs (f p) ≤ k) → nat_abs (over_settled o t f) ≤ most_periods * k
  summed k f h =
      omega (arith, few_periods o (fitting o st.figures).few_days k, sum_small (periods_of o) k (λ p. cond (t.settled p) (f p) (pos 0)) (λ p l. cond_small (t.settled p) k (f p) (h p l)))

  room : (f : Figure) (i : ℕ) → i < o.members → (k limit : ℕ) → most_periods * k ≤ limit → ((p : ℕ) → p < periods_of o → nat_abs (figure f (due o rule t p i)) ≤ k) → nat_abs (figure f (get_or L.accounts i nothing)) ≤ limit
  room f i h k limit le each = subst (λ z. nat_abs z ≤ limit) (sym (st.sums i h f)) (omega (arith, le, summed k (λ p. figure f (due o rule t p i)) each))

  roomy : (i : ℕ) → i < o.members → Roomy (get_or L.accounts i nothing)
  roomy i h =
      record {
        inside = room inside i h (2 * rest_limit) account_kwh_limit (omega arith) (λ p l. (modest p i l h).inside);
        outside = room outside i h rest_limit account_kwh_limit (omega arith) (λ p l. (modest p i l h).outside);
        money = room money i h (2 * rest_limit * internal_price_limit + rest_limit * price_limit) account_money_limit (omega arith) (λ p l. (modest p i l h).money);
      }

  pub passes : Passes o L
  passes =
      record {
        lengths = and_from _ _ (eq-eqb _ _ st.a_mark_each) (eq-eqb _ _ st.an_account_each);
        range = and_from _ _
            (every_from account_in_range nothing L.accounts (λ i h. roomy_to _ (roomy i (omega (arith, st.an_account_each)))))
            (every_from mark_in_range Unpriced L.marks (λ p h. st.small_prices p (omega (arith, st.a_mark_each))));
        figures = st.figures;
      }

pub sound : (o : Opening) (rule : Sharing) → LawfulRule rule → {t : Tally} {L : Held} {m : Meaning} → Lawful m → Run o rule t L m → Sound o rule t L m
sound o rule law {t} {L} {m} lawful run =
    let st = run_stands o rule run in
    record { run = run; adds_up = adds_up o rule law t L m lawful st; in_range = passes o rule law t L m lawful st }

-- what a call does is a step of a run
pub goes_on : (o : Opening) (rule : Sharing) → LawfulRule rule → (call : Call) (r : Answer) {L K : Held} {m n : Meaning} → Lawful n
    → ((t : Tally) → Run o rule t L m → Run o rule (fed t call (is_ok r)) K n) → GoesOn o rule call r L m K n
goes_on o rule law call r lawful step t run = sound o rule law lawful (step t run)

pub begins : (o : Opening) (r : Answer) (lent L : Held) → Opens o r lent L → Begins o r L
begins o (Ok tt) lent L opens = λ rule law m lawful no_cells. sound o rule law lawful (opened opens no_cells)
begins o (Err e) lent L opens = tt
