-- What an accepted call tells of the period it was made for, in terms of periods, prices and accounts alone.
use Rattle.std.proofs.Common.{◌≡◌, ℕ, ◌<◌, ◌≤◌, Bool, true, false, not, leb, length, get_or, set, ℤ, ◌+ℤ◌, ◌-ℤ◌, nat_abs, IfOk, Some, Ok, Err, Result, sym, refl, ap, ◌∙◌, subst, arith}
use Rattle.std.proofs.lemmas.Bool.{le-leb, leb-true}
use Rattle.refusal.specs.declared.reason.Reason.{Reason}
use Rattle.energy.specs.Meaning.{Meaning}
use Rattle.refusal.specs.declared.concern.Concern.{Concern}
use Rattle.ledger.specs.declared.entries.Account.{Account}
use Rattle.ledger.specs.declared.entries.Mark.{Mark}
use Rattle.ledger.specs.declared.entries.Mark.TheVariants.{Unpriced, Priced, Settled}
use Rattle.ledger.specs.declared.marks.Event.TheVariants.{Energy, Price}
use Rattle.ledger.specs.declared.marks.Turn.{Turn}
use Rattle.ledger.specs.declared.marks.Turn.TheVariants.{Settling, Reopening}
use Rattle.refusal.specs.Numbers.{concern, of_period}
use Rattle.ledger.specs.Answers.{◌then◌}
use Rattle.ledger.specs.Calls.{Turns, Settles, Reopens, booked, next_mark, member_verdict, energy_verdict, price_verdict, turned_mark}
use Rattle.ledger.specs.Energies.{Energies, Sharing, all_known, gain}
use Rattle.ledger.specs.Judgement.{Held, nothing, judged, judged_with_book, mark_in_range, periods_of}
use Rattle.ledger.specs.Marks.{Offer, advanced, event_of, price_at, published}
use Rattle.ledger.proofs.Judging.{then_parts}
use Rattle.ledger.proofs.Turned.{next_parts, never_ok, some_same}
use Rattle.posting.specs.declared.posting.MemberEnergy.{MemberEnergy}
use Rattle.posting.specs.declared.posting.Opening.{Opening}
use Rattle.pricing.specs.declared.derivation.Derivation.{Derivation}
use Rattle.pricing.specs.declared.figures.SystemFigures.{SystemFigures}
use Rattle.pricing.specs.Laws.{Lawful}
use Rattle.pricing.specs.Limits.{price_limit}
use Rattle.pricing.specs.Prices.{derivation_of, price_in, price_if_any, price_of}
use Rattle.pricing.proofs.Lawfulness.{every_price_lawful}

abbrev pub is_settled : Mark → Bool
is_settled Unpriced = false
is_settled (Priced _) = false
is_settled (Settled _) = true

-- ---- the three figures of an account

pub data Figure : Type 0 where
  inside : Figure
  outside : Figure
  money : Figure

abbrev pub figure : Figure → Account → ℤ
figure inside a = a.inside_kwh
figure outside a = a.outside_kwh
figure money a = a.money

-- added, or taken off
abbrev pub signed : Bool → ℤ → ℤ → ℤ
signed true s d = s +ℤ d
signed false s d = s -ℤ d

-- ---- settling and reopening

-- whether a period stands settled after it is turned over
abbrev settles : Turn → Bool
settles Settling = true
settles Reopening = false

figure_booked : (f : Figure) (turn : Turn) (a g : Account) → figure f (booked turn a g) ≡ signed (settles turn) (figure f a) (figure f g)
figure_booked inside Settling a g = refl
figure_booked outside Settling a g = refl
figure_booked money Settling a g = refl
figure_booked inside Reopening a g = refl
figure_booked outside Reopening a g = refl
figure_booked money Reopening a g = refl

stood_before : (who : Concern) (turn : Turn) (m n : Mark) → advanced who m (event_of turn) ≡ Ok n → is_settled m ≡ not (settles turn)
stood_before who Settling Unpriced n e = never_ok e
stood_before who Settling (Priced v) n e = refl
stood_before who Settling (Settled v) n e = never_ok e
stood_before who Reopening Unpriced n e = never_ok e
stood_before who Reopening (Priced v) n e = never_ok e
stood_before who Reopening (Settled v) n e = refl

-- a price that stands in a mark in range is small
pub mark_small : (m : Mark) (v : ℤ) → price_at m ≡ Some v → mark_in_range m ≡ true → nat_abs v ≤ price_limit
mark_small Unpriced v e h = let z : ◌≡◌ {A = ℕ} 0 1 = cc in absurd (omega arith)
mark_small (Priced w) v e h = subst (λ z. nat_abs z ≤ price_limit) (some_same refl e) (leb-true _ _ h)
mark_small (Settled w) v e h = subst (λ z. nat_abs z ≤ price_limit) (some_same refl e) (leb-true _ _ h)

-- a mark that has a price and stands so
pub record StandsAt (b : Bool) (v : ℤ) (m : Mark) : Type 0 where
  pub price : price_at m ≡ Some v
  pub settled : is_settled m ≡ b
  pub small : nat_abs v ≤ price_limit → mark_in_range m ≡ true

turned_stands : (turn : Turn) (v : ℤ) → StandsAt (settles turn) v (turned_mark turn v)
turned_stands Settling v = record { price = refl; settled = refl; small = le-leb _ _ }
turned_stands Reopening v = record { price = refl; settled = refl; small = le-leb _ _ }

-- a period settled, or reopened: what stood there, and what stands there now
pub record TurnDone (o : Opening) (rule : Sharing) (E : Energies) (p : ℕ) (b : Bool) (L K : Held) : Type 0 where
  pub there : p < periods_of o
  pub known : all_known o.members E p ≡ Ok tt
  pub price : ℤ
  pub at_price : price_at (get_or L.marks p Unpriced) ≡ Some price
  pub stood : is_settled (get_or L.marks p Unpriced) ≡ not b
  pub mark : Mark
  pub mark_stands : StandsAt b price mark
  pub marks_after : K.marks ≡ set L.marks p mark
  pub same_length : length K.accounts ≡ length L.accounts
  pub each : (i : ℕ) → i < length L.accounts → (f : Figure) → figure f (get_or K.accounts i nothing) ≡ signed b (figure f (get_or L.accounts i nothing)) (figure f (gain o rule E p price i))

turn_done : (o : Opening) (rule : Sharing) (m : Meaning) (p : ℕ) (turn : Turn) (L K : Held) → Turns o rule m p turn (Ok tt) L K → TurnDone o rule m.cell p (settles turn) L K
turn_done o rule m p turn L K turns =
    let a = then_parts (judged_with_book (of_period p) o L m) _ tt (sym turns.answer) in
    let b = then_parts (next_mark (of_period p) o L.marks p (event_of turn)) _ tt a.2 in
    let c = next_parts (of_period p) o L.marks p (event_of turn) b.0 b.1 in
    let d = turns.outcome in
    record {
      there = c.0;
      known = b.2;
      price = d.price;
      at_price = d.at_price;
      stood = stood_before (of_period p) turn (get_or L.marks p Unpriced) b.0 c.1;
      mark = turned_mark turn d.price;
      mark_stands = turned_stands turn d.price;
      marks_after = d.marks_after;
      same_length = d.accounts_after.same_length;
      each = λ i h f. ap (figure f) (d.accounts_after.each i h) ∙ figure_booked f turn (get_or L.accounts i nothing) (gain o rule m.cell p d.price i);
    }

pub settle_done : (o : Opening) (rule : Sharing) (m : Meaning) (p : ℕ) (L K : Held) → Settles o rule m p (Ok tt) L K → TurnDone o rule m.cell p true L K
settle_done o rule m p L K turns = turn_done o rule m p Settling L K turns

pub reopen_done : (o : Opening) (rule : Sharing) (m : Meaning) (p : ℕ) (L K : Held) → Reopens o rule m p (Ok tt) L K → TurnDone o rule m.cell p false L K
reopen_done o rule m p L K turns = turn_done o rule m p Reopening L K turns

-- ---- prices

price_from : (who : Concern) (m n : Mark) (offer : Offer) → advanced who m (Price offer) ≡ Ok n → is_settled m ≡ false
price_from who Unpriced n offer e = refl
price_from who (Priced v) n offer e = refl
price_from who (Settled v) n offer e = never_ok e

pub record OpenPeriod (o : Opening) (L : Held) (p : ℕ) : Type 0 where
  pub there : p < periods_of o
  pub open_still : is_settled (get_or L.marks p Unpriced) ≡ false

pub price_accepted : (o : Opening) (L : Held) (p : ℕ) (offer : Offer) → Ok tt ≡ (judged (of_period p) o L then price_verdict o L p offer) → OpenPeriod o L p
price_accepted o L p offer e =
    let a = then_parts (judged (of_period p) o L) _ tt (sym e) in
    let b = then_parts (next_mark (of_period p) o L.marks p (Price offer)) _ tt a.2 in
    let c = next_parts (of_period p) o L.marks p (Price offer) b.0 b.1 in
    record { there = c.0; open_still = price_from (of_period p) (get_or L.marks p Unpriced) b.0 offer c.1 }

-- every price that is offered is small
abbrev pub SmallOffer : Offer → Type 0
SmallOffer offer = (v : ℤ) → offer ≡ Ok v → nat_abs v ≤ price_limit

ok_is : {v w : ℤ} → ◌≡◌ {A = Offer} (Ok v) (Ok w) → v ≡ w
ok_is e = cc

pub published_is : (v w : ℤ) → published v ≡ Ok w → (w ≡ v) × (nat_abs w ≤ price_limit)
published_is v w e = go (leb (nat_abs v) price_limit) refl
  where
    go : (b : Bool) → leb (nat_abs v) price_limit ≡ b → (w ≡ v) × (nat_abs w ≤ price_limit)
    go true t = let s : w ≡ v = cc in (s, subst (λ z. nat_abs z ≤ price_limit) (sym s) (leb-true _ _ t))
    go false t = let z : ◌≡◌ {A = ℕ} 0 1 = cc in absurd (omega arith)

pub figures_small : (f : SystemFigures) → SmallOffer (price_of f)
figures_small f v e = go (derivation_of f) (every_price_lawful f) e
  where
    go : (d : Result Derivation Reason) → IfOk d (λ k. Lawful f (price_in k)) → price_if_any d ≡ Ok v → nat_abs v ≤ price_limit
    go (Ok k) law q = subst (λ z. nat_abs z ≤ price_limit) (ok_is q) law.small
    go (Err why) law q = let z : ◌≡◌ {A = ℕ} 0 1 = cc in absurd (omega arith)

-- ---- energies

energy_from : (who : Concern) (m n : Mark) → advanced who m Energy ≡ Ok n → is_settled m ≡ false
energy_from who Unpriced n e = refl
energy_from who (Priced v) n e = refl
energy_from who (Settled v) n e = never_ok e

pub energy_accepted : (o : Opening) (L : Held) (m : Meaning) (e : MemberEnergy) (line : ℕ) → Ok tt ≡ (judged_with_book (concern e.member e.period) o L m then energy_verdict o L m e line) → OpenPeriod o L e.period
energy_accepted o L m e line q =
    let who = concern e.member e.period in
    let a = then_parts (judged_with_book who o L m) _ tt (sym q) in
    let b = then_parts (member_verdict who o e.member) _ tt a.2 in
    let c = then_parts (next_mark who o L.marks e.period Energy) _ tt b.2 in
    let d = next_parts who o L.marks e.period Energy c.0 c.1 in
    record { there = d.0; open_still = energy_from who (get_or L.marks e.period Unpriced) c.0 d.1 }
