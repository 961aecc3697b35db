-- One period settled or reopened, over plain values.
use Rattle.std.proofs.Common.{◌≡◌, ℕ, ◌<◌, ◌≤◌, true, ltb, List, get_or, set, ℤ, nat_abs, Some, Ok, Err, Option, Result, sym, refl, ap, ◌∙◌, subst, ap₂, arith}
use Rattle.std.proofs.lemmas.Bool.{leb-true, ltb-true}
use Rattle.refusal.specs.declared.refused.Refusal.{Refusal}
use Rattle.posting.specs.declared.posting.Opening.{Opening}
use Rattle.pricing.specs.Limits.{price_limit}
use Rattle.refusal.specs.declared.concern.Concern.{Concern}
use Rattle.ledger.specs.declared.entries.Account.{Account}
use Rattle.ledger.specs.declared.entries.Mark.{Mark}
use Rattle.ledger.specs.declared.entries.Mark.TheVariants.{Unpriced, Priced, Settled}
use Rattle.ledger.specs.declared.marks.Event.{Event}
use Rattle.ledger.specs.declared.marks.Turn.{Turn}
use Rattle.ledger.specs.declared.marks.Turn.TheVariants.{Settling, Reopening}
use Rattle.refusal.specs.Numbers.{of_period}
use Rattle.ledger.specs.Answers.{Answer, ◌then◌}
use Rattle.ledger.specs.Calls.{Does, Booked, Turned, next_mark, period_verdict, turn_verdict, turned_mark}
use Rattle.ledger.specs.Energies.{Energies, Sharing, all_known, gain}
use Rattle.ledger.specs.Judgement.{Held, periods_of, mark_in_range}
use Rattle.ledger.specs.Marks.{advanced, event_of, price_at}
use Rattle.ledger.proofs.Judging.{then_parts, unless_passed}

-- a call after a test that it passed
pub does_then : {S : Type 0} {deed : S → S → Type 0} (test verdict : Answer) (r : Answer) (before after : S) → test ≡ Ok tt → Does verdict deed r before after → Does (test then verdict) deed r before after
does_then test verdict r before after e d = record { answer = d.answer ∙ ap (λ t. t then verdict) (sym e); outcome = d.outcome }

ok_same : {x y : Mark} → ◌≡◌ {A = Result Mark Refusal} (Ok x) (Ok y) → y ≡ x
ok_same e = cc

pub never_ok : {e : Refusal} {x : Mark} {P : Type 0} → ◌≡◌ {A = Result Mark Refusal} (Err e) (Ok x) → P
never_ok q = let z : ◌≡◌ {A = ℕ} 0 1 = cc in absurd (omega arith)

pub some_same : {x y : ℤ} {o : Option ℤ} → o ≡ Some x → Some y ≡ o → y ≡ x
some_same p q = cc

-- what an event finds that a period allows
pub next_parts : (who : Concern) (o : Opening) (marks : List Mark) (p : ℕ) (event : Event) (next : Mark) → next_mark who o marks p event ≡ Ok next → (p < periods_of o) × (advanced who (get_or marks p Unpriced) event ≡ Ok next)
next_parts who o marks p event next e =
    let parts = then_parts (period_verdict who o p) _ next e in
    (ltb-true _ _ (unless_passed (ltb p (periods_of o)) _ parts.1), parts.2)

-- the mark of a period that is turned over, before and after
pub record Turnable (turn : Turn) (mark next : Mark) : Type 0 where
  pub price : ℤ
  pub at_price : price_at mark ≡ Some price
  pub next_is : next ≡ turned_mark turn price
  pub next_price : price_at next ≡ Some price
  pub small : mark_in_range mark ≡ true → nat_abs price ≤ price_limit

pub turnable : (who : Concern) (turn : Turn) (mark next : Mark) → advanced who mark (event_of turn) ≡ Ok next → Turnable turn mark next
turnable who Settling Unpriced next e = never_ok e
turnable who Settling (Priced v) next e = record { price = v; at_price = refl; next_is = ok_same e; next_price = ap price_at (ok_same e); small = λ h. leb-true _ _ h }
turnable who Settling (Settled v) next e = never_ok e
turnable who Reopening Unpriced next e = never_ok e
turnable who Reopening (Priced v) next e = never_ok e
turnable who Reopening (Settled v) next e = record { price = v; at_price = refl; next_is = ok_same e; next_price = ap price_at (ok_same e); small = λ h. leb-true _ _ h }

-- what is known once the next mark is
pub record Turning (o : Opening) (L : Held) (p : ℕ) (turn : Turn) (next : Mark) : Type 0 where
  pub next_passes : next_mark (of_period p) o L.marks p (event_of turn) ≡ Ok next
  pub period : p < periods_of o
  pub mark : Turnable turn (get_or L.marks p Unpriced) next

pub turning : (o : Opening) (L : Held) (p : ℕ) (turn : Turn) (next : Mark) (who : Concern) (event : Event) → who ≡ of_period p → event ≡ event_of turn → Ok next ≡ next_mark who o L.marks p event → Turning o L p turn next
turning o L p turn next who event w v e =
    let passes : next_mark (of_period p) o L.marks p (event_of turn) ≡ Ok next = sym (e ∙ ap₂ (λ a b. next_mark a o L.marks p b) w v) in
    let parts = next_parts (of_period p) o L.marks p (event_of turn) next passes in
    record { next_passes = passes; period = parts.0; mark = turnable (of_period p) turn (get_or L.marks p Unpriced) next parts.1 }

module _ (o : Opening) (rule : Sharing) (E : Energies) (p : ℕ) (turn : Turn) (L : Held) (next : Mark) (known : Turning o L p turn next) where
  pub turned : (price : ℤ) (index : ℕ) (accounts : List Account) → price ≡ known.mark.price → index ≡ p → all_known o.members E p ≡ Ok tt → Booked turn (gain o rule E p price) L.accounts accounts
      → Does (turn_verdict o L E p turn) (Turned o rule E p turn) (Ok tt) L (record { marks = set L.marks index next; accounts = accounts })
  turned price index accounts v i all b =
      record {
        answer = sym (ap (λ r. r then all_known o.members E p) known.next_passes ∙ all);
        outcome = record {
          price = known.mark.price;
          at_price = known.mark.at_price;
          marks_after = ap₂ (set L.marks) i known.mark.next_is;
          accounts_after = subst (λ z. Booked turn (gain o rule E p z) L.accounts accounts) v b;
        };
      }
