-- A period that was settled and reopened leaves the ledger as it was.
use Rattle.std.proofs.Common.{◌≡◌, ℕ, ◌<◌, true, false, List, length, get_or, set, ℤ, ◌+ℤ◌, ◌-ℤ◌, Some, Ok, sym, ap, ◌∙◌, ap₂, arith}
use Rattle.std.proofs.lemmas.List.{get_or-set_same, set-set, set-get_or, ext_get_or}
use Rattle.std.proofs.lemmas.Int.{ints}
use Rattle.std.proofs.lemmas.Bool.{lt-ltb}
use Rattle.refusal.specs.declared.reason.Reason.TheVariants.{NoSuchPeriod}
use Rattle.energy.specs.Meaning.{Meaning}
use Rattle.ledger.specs.declared.entries.Account.{Account}
use Rattle.ledger.specs.declared.entries.Mark.{Mark}
use Rattle.ledger.specs.declared.entries.Mark.TheVariants.{Unpriced, Priced, Settled}
use Rattle.ledger.specs.declared.marks.Event.TheVariants.{Reopen}
use Rattle.ledger.specs.declared.marks.Turn.TheVariants.{Settling, Reopening}
use Rattle.refusal.specs.Numbers.{of_period}
use Rattle.ledger.specs.Answers.{Answer, refused, unless, ◌then◌}
use Rattle.ledger.specs.Calls.{Booked, Settles, Reopens, booked, turn_verdict, next_mark}
use Rattle.ledger.specs.Energies.{Sharing, all_known, gain}
use Rattle.ledger.specs.Judgement.{Held, nothing, periods_of, book_fits, size_verdict, judged_with_book, ledger_verdict, lengths_fit, in_range, figures_fit}
use Rattle.ledger.specs.Marks.{advanced, price_at}
use Rattle.ledger.proofs.Accounts.{same_account}
use Rattle.ledger.proofs.Judging.{then_parts, unless_passed}
use Rattle.ledger.proofs.Steps.{is_settled, settle_done}
use Rattle.ledger.proofs.Turned.{some_same}
use Rattle.posting.specs.declared.posting.Opening.{Opening}

-- ---- accounts

there_and_back : (a b : ℤ) → a +ℤ b -ℤ b ≡ a
there_and_back a b = omega (arith, ints)

unbooked : (a g : Account) → booked Reopening (booked Settling a g) g ≡ a
unbooked a g = same_account (there_and_back a.inside_kwh g.inside_kwh) (there_and_back a.outside_kwh g.outside_kwh) (there_and_back a.money g.money)

accounts_back : (one other : ℕ → Account) (before between after : List Account) → ((i : ℕ) → other i ≡ one i) → Booked Settling one before between → Booked Reopening other between after → after ≡ before
accounts_back one other before between after e b d =
    ext_get_or nothing after before (d.same_length ∙ b.same_length)
    (λ i h.
    let l : i < length before = omega (arith, d.same_length, b.same_length) in
    let k : i < length between = omega (arith, b.same_length) in
    d.each i k ∙ ap₂ (booked Reopening) (b.each i l) (e i) ∙ unbooked (get_or before i nothing) (one i))

-- ---- marks

-- a period that has a price and is not settled is priced
priced_is : (m : Mark) (v : ℤ) → price_at m ≡ Some v → is_settled m ≡ false → m ≡ Priced v
priced_is Unpriced v e s = let z : ◌≡◌ {A = ℕ} 0 1 = cc in absurd (omega arith)
priced_is (Priced w) v e s = cc
priced_is (Settled w) v e s = let z : ◌≡◌ {A = ℕ} 0 1 = cc in absurd (omega arith)

same_held : {L K : Held} → K.marks ≡ L.marks → K.accounts ≡ L.accounts → K ≡ L
same_held p q = λ i. record { marks = p i; accounts = q i }

-- ---- the judgement

-- a ledger that passes its tests is taken with every book that fits
pub judgement_passes : (o : Opening) (L : Held) (m : Meaning) (p : ℕ) → lengths_fit o L ≡ true → in_range L ≡ true → figures_fit o ≡ true → book_fits o m ≡ true → judged_with_book (of_period p) o L m ≡ Ok tt
judgement_passes o L m p a b c fits = cc

book_passed : (o : Opening) (L : Held) (m : Meaning) (p : ℕ) → judged_with_book (of_period p) o L m ≡ Ok tt → book_fits o m ≡ true
book_passed o L m p e =
    let a = then_parts (ledger_verdict (of_period p) o L) _ tt e in
    let b = then_parts (size_verdict (of_period p) o m) _ tt a.2 in
    unless_passed (book_fits o m) _ b.1

-- a settled period with all its energies can be reopened
can_reopen : (o : Opening) (L : Held) (m : Meaning) (p : ℕ) (v : ℤ) → judged_with_book (of_period p) o L m ≡ Ok tt → p < periods_of o → get_or L.marks p Unpriced ≡ Settled v → all_known o.members m.cell p ≡ Ok tt
    → (judged_with_book (of_period p) o L m then turn_verdict o L m.cell p Reopening) ≡ Ok tt
can_reopen o L m p v j h mark known =
    let next : next_mark (of_period p) o L.marks p Reopen ≡ Ok (Priced v) =
    ap (λ b. unless b (refused (of_period p) NoSuchPeriod) then advanced (of_period p) (get_or L.marks p Unpriced) Reopen) (lt-ltb p (periods_of o) h) ∙ ap (λ k. advanced (of_period p) k Reopen) mark in
    ap (λ a. a then turn_verdict o L m.cell p Reopening) j ∙ ap (λ a. a then all_known o.members m.cell p) next ∙ known

module _ (o : Opening) (rule : Sharing) (m : Meaning) (p : ℕ) (L between : Held) (long : length L.marks ≡ periods_of o) (first : Settles o rule m p (Ok tt) L between) where
  settled_mark : get_or between.marks p Unpriced ≡ Settled first.outcome.price
  settled_mark =
      let l : p < length L.marks = omega (arith, long, (settle_done o rule m p L between first).there) in
      ap (λ ms. get_or ms p Unpriced) first.outcome.marks_after ∙ get_or-set_same L.marks p (Settled first.outcome.price) Unpriced l

  -- the judgement passing, reopening is accepted
  pub reopening_accepted : (r : Answer) (after : Held) → lengths_fit o between ≡ true → in_range between ≡ true → figures_fit o ≡ true → Reopens o rule m p r between after → r ≡ Ok tt
  reopening_accepted r after lengths range figures second =
      let a = settle_done o rule m p L between first in
      let fits = book_passed o L m p (then_parts (judged_with_book (of_period p) o L m) _ tt (sym first.answer)).1 in
      second.answer ∙ can_reopen o between m p first.outcome.price (judgement_passes o between m p lengths range figures fits) a.there settled_mark a.known

  -- and the ledger is then as it was
  pub reopening_gives_back : (after : Held) → Reopens o rule m p (Ok tt) between after → after ≡ L
  reopening_gives_back after second =
      let a = settle_done o rule m p L between first in
      let d = first.outcome in
      let u = second.outcome in
      let price : u.price ≡ d.price = some_same (ap price_at settled_mark) (sym u.at_price) in
      let was : get_or L.marks p Unpriced ≡ Priced d.price = priced_is (get_or L.marks p Unpriced) d.price d.at_price a.stood in
      same_held
      (u.marks_after ∙ ap₂ (λ ms v. set ms p (Priced v)) d.marks_after price ∙ set-set L.marks p (Settled d.price) (Priced d.price) ∙ ap (set L.marks p) (sym was) ∙ set-get_or L.marks p Unpriced)
      (accounts_back (gain o rule m.cell p d.price) (gain o rule m.cell p u.price) L.accounts between.accounts after.accounts (λ i. ap (λ v. gain o rule m.cell p v i) price) d.accounts_after u.accounts_after)
