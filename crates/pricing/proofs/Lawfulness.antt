-- Every price is lawful.
use Rattle.std.proofs.Common.{◌≡◌, ℕ, zero, suc, ◌≤◌, true, ◌&&◌, leb, ℤ, pos, negsuc, nat_abs, ◌<ℤ◌, IfOk, Some, None, Ok, Err, Option, Result, sym, refl, ap, ◌∙◌, subst, arith}
use Rattle.refusal.specs.declared.reason.Reason.{Reason}
use Rattle.refusal.specs.declared.reason.Reason.TheVariants.{FigureOutOfRange}
use Rattle.std.proofs.lemmas.Int.{ints}
use Rattle.std.proofs.lemmas.Bool.{and_parts, leb-true, cond_both, cond-true}
use Rattle.rounding.proofs.Distances.{rounding_within}
use Rattle.pricing.specs.declared.figures.SystemFigures.{SystemFigures}
use Rattle.pricing.specs.declared.derivation.Base.{Base}
use Rattle.pricing.specs.declared.derivation.Candidates.{Candidates}
use Rattle.pricing.specs.declared.derivation.Side.{Side}
use Rattle.pricing.specs.declared.derivation.Side.TheVariants.{Surplus, Shortage}
use Rattle.pricing.specs.Limits.{imbalance_limit, offer_limit, price_limit, offer_in_range, bid_in_range, activations_in_range, offers_in_range, both_in_range, figures_in_range}
use Rattle.pricing.specs.Fractions.{to_nearest}
use Rattle.pricing.specs.Laws.{Lawful}
use Rattle.pricing.specs.Prices.{decided, on_base, on_side, derivation_of, price_in}
use Rattle.pricing.specs.Stages.{side_of, activations_on, bid_on, base_of, beside_index, candidates_of, decisive}
use Rattle.pricing.proofs.Bounds.{BaseBounded, base_bounded}
use Rattle.pricing.proofs.Choices.{AllBounded, all_bounded, decisive_bounded, Ahead, ahead_of_base, ahead_of_index}

-- ---- what the range check tells

pub record InRange (f : SystemFigures) : Type 0 where
  pub imbalance : nat_abs f.imbalance_kwh ≤ imbalance_limit
  pub activations : (side : Side) → activations_in_range (activations_on side f) ≡ true
  pub bid : (side : Side) → bid_in_range (bid_on side f) ≡ true
  pub index : nat_abs f.index ≤ offer_limit

on_each : (P : Side → Type 0) → P Surplus → P Shortage → (side : Side) → P side
on_each P p q Surplus = p
on_each P p q Shortage = q

pub in_range : (f : SystemFigures) → figures_in_range f ≡ true → InRange f
in_range f e =
    let a = and_parts (leb (nat_abs f.imbalance_kwh) imbalance_limit) (both_in_range f && offers_in_range f) e in
    let b = and_parts (both_in_range f) (offers_in_range f) a.1 in
    let both = and_parts (activations_in_range f.downward) (activations_in_range f.upward) b.0 in
    let offers = and_parts (bid_in_range f.downward_bid) (bid_in_range f.upward_bid && offer_in_range f.index) b.1 in
    let others = and_parts (bid_in_range f.upward_bid) (offer_in_range f.index) offers.1 in
    record {
      imbalance = leb-true _ _ a.0;
      activations = on_each (λ side. activations_in_range (activations_on side f) ≡ true) both.0 both.1;
      bid = on_each (λ side. bid_in_range (bid_on side f) ≡ true) offers.0 others.0;
      index = leb-true _ _ others.1;
    }

pub base_of_range : (f : SystemFigures) → InRange f → (side : Side) → IfOk (base_of (activations_on side f) (bid_on side f)) BaseBounded
base_of_range f r side = base_bounded (activations_on side f) (bid_on side f) (r.activations side) (r.bid side)

-- ---- the side and the sign

no_shortage : (z : ℤ) → side_of z ≡ Some Surplus → z <ℤ pos 0 → ⊥
no_shortage (pos zero) e h = omega (arith, ints)
no_shortage (pos (suc n)) e h = omega (arith, ints)
no_shortage (negsuc n) e h = let z : ◌≡◌ {A = ℕ} 0 1 = cc in omega arith

no_surplus : (z : ℤ) → side_of z ≡ Some Shortage → pos 0 <ℤ z → ⊥
no_surplus (pos zero) e h = omega (arith, ints)
no_surplus (pos (suc n)) e h = let z : ◌≡◌ {A = ℕ} 0 1 = cc in omega arith
no_surplus (negsuc n) e h = omega (arith, ints)

balanced : (z : ℤ) → side_of z ≡ None → z ≡ pos 0
balanced (pos zero) e = refl
balanced (pos (suc n)) e = let z : ◌≡◌ {A = ℕ} 0 1 = cc in absurd (omega arith)
balanced (negsuc n) e = let z : ◌≡◌ {A = ℕ} 0 1 = cc in absurd (omega arith)

-- ---- the law

same_base : (r : Result Base Reason) (b d : Base) → r ≡ Ok b → r ≡ Ok d → d ≡ b
same_base r b d p q = cc

module _ (f : SystemFigures) (r : InRange f) where
  abbrev priced : Side → Base → Candidates
  priced side base = candidates_of side (nat_abs f.imbalance_kwh) f.index base

  abbrev price : Side → Base → ℤ
  price side base = to_nearest (decisive side (priced side base)).value

  all : (side : Side) (base : Base) → BaseBounded base → AllBounded (priced side base)
  all side base b = all_bounded side (nat_abs f.imbalance_kwh) f.index base r.imbalance r.index b

  price_small : (side : Side) (base : Base) → BaseBounded base → nat_abs (price side base) ≤ price_limit
  price_small side base b =
      let d = (decisive side (priced side base)).value in
      let h = decisive_bounded side (priced side base) (all side base b) in
      rounding_within d.numerator d.denominator price_limit h.proper h.small

  price_ahead : (side : Side) (base : Base) → BaseBounded base → (other : Base) → other ≡ base →
      Ahead side (price side base) (to_nearest other.value) × Ahead side (price side base) (to_nearest (beside_index side f.index))
  price_ahead side base b other e = (
    subst (λ o. Ahead side (price side base) (to_nearest o.value)) (sym e) (ahead_of_base side (priced side base) (all side base b)),
    ahead_of_index side (priced side base) (all side base b),
  )

  lawful_on : (side : Side) (base : Base) → BaseBounded base → side_of f.imbalance_kwh ≡ Some side → base_of (activations_on side f) (bid_on side f) ≡ Ok base → Lawful f (price side base)
  lawful_on Surplus base b is based = record {
    small = price_small Surplus base b;
    surplus = λ h other e. price_ahead Surplus base b other (same_base _ base other based e);
    shortage = λ h other e. absurd (no_shortage f.imbalance_kwh is h);
  }
  lawful_on Shortage base b is based = record {
    small = price_small Shortage base b;
    surplus = λ h other e. absurd (no_surplus f.imbalance_kwh is h);
    shortage = λ h other e. price_ahead Shortage base b other (same_base _ base other based e);
  }

  on_any_base : (side : Side) → side_of f.imbalance_kwh ≡ Some side → (based : Result Base Reason) → base_of (activations_on side f) (bid_on side f) ≡ based → IfOk based BaseBounded → IfOk (on_base side f based) (λ d. Lawful f (price_in d))
  on_any_base side is (Ok base) e b = lawful_on side base b is e
  on_any_base side is (Err reason) e b = tt

  on_any_side : (s : Option Side) → side_of f.imbalance_kwh ≡ s → IfOk (on_side f s) (λ d. Lawful f (price_in d))
  on_any_side None is =
      let zero_kwh = balanced f.imbalance_kwh is in
      record {
        small = omega (arith, r.index);
        surplus = λ h other e. absurd (omega (arith, ints, zero_kwh));
        shortage = λ h other e. absurd (omega (arith, ints, zero_kwh));
      }
  on_any_side (Some side) is = on_any_base side is (base_of (activations_on side f) (bid_on side f)) refl (base_of_range f r side)

pub every_price_lawful : (f : SystemFigures) → IfOk (derivation_of f) (λ d. Lawful f (price_in d))
every_price_lawful f =
    cond_both (figures_in_range f) (on_side f (side_of f.imbalance_kwh)) (Err FigureOutOfRange) (λ o. IfOk o (λ d. Lawful f (price_in d)))
    (λ e. on_any_side f (in_range f e) (side_of f.imbalance_kwh) refl)
    (λ e. tt)

-- ---- how the stages make up a derivation

module _ (f : SystemFigures) (side : Side) (base : Base) (range : figures_in_range f ≡ true) (is : Some side ≡ side_of f.imbalance_kwh) (based : Ok base ≡ base_of (activations_on side f) (bid_on side f)) where
  pub derived : Ok (decided side (nat_abs f.imbalance_kwh) (candidates_of side (nat_abs f.imbalance_kwh) f.index base)) ≡ derivation_of f
  derived =
      ap (on_base side f) based ∙ ap (on_side f) is
      ∙ sym (cond-true (figures_in_range f) (on_side f (side_of f.imbalance_kwh)) (Err FigureOutOfRange) range)
