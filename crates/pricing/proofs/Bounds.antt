-- How large energies, costs, the base and the candidates can be where the figures are in range.
use Rattle.std.proofs.Common.{◌≡◌, ℕ, ◌*◌, ◌≤◌, true, ◌&&◌, eqb, leb, ℤ, nat_abs, IfOk, Some, None, Ok, Option, refl, mul-le-mul_right, arith}
use Rattle.std.proofs.lemmas.Nat.{mul-le}
use Rattle.std.proofs.lemmas.Int.{ints}
use Rattle.std.proofs.lemmas.Int.{unsigned_abs-mul}
use Rattle.std.proofs.lemmas.Bool.{and_parts, leb-true, eqb-false, cond_both}
use Rattle.pricing.specs.declared.figures.Activation.{Activation}
use Rattle.pricing.specs.declared.figures.Activations.{Activations}
use Rattle.pricing.specs.declared.fraction.Fraction.{Fraction}
use Rattle.pricing.specs.declared.derivation.Base.{Base}
use Rattle.pricing.specs.declared.derivation.Side.{Side}
use Rattle.pricing.specs.declared.derivation.Side.TheVariants.{Surplus, Shortage}
use Rattle.pricing.specs.Limits.{imbalance_limit, activation_limit, offer_limit, price_limit, base_grain, candidate_grain, offer_in_range, bid_in_range, activation_in_range, activations_in_range}
use Rattle.pricing.specs.Fractions.{Bounded}
use Rattle.pricing.specs.Stages.{toward, activated_kwh, cost, mean, bid_alone, base_of, margin_quarters, beside_index, scaled}

-- ---- activations

pub record Small (a : Activation) : Type 0 where
  pub few : a.kwh ≤ activation_limit
  pub cheap : nat_abs (cost a) ≤ offer_limit * a.kwh

small : (a : Activation) → activation_in_range a ≡ true → Small a
small a e =
    let p = and_parts (leb a.kwh activation_limit) (offer_in_range a.price) e in
    let near = leb-true (nat_abs a.price) offer_limit p.1 in
    record {
      few = leb-true a.kwh activation_limit p.0;
      cheap = rw unsigned_abs-mul (mul-le-mul_right a.kwh near);
    }

pub record AllSmall (a : Activations) : Type 0 where
  pub automatic : Small a.automatic
  pub manual : Small a.manual
  pub replacement : Small a.replacement

pub all_small : (a : Activations) → activations_in_range a ≡ true → AllSmall a
all_small a e =
    let p = and_parts (activation_in_range a.automatic) (activation_in_range a.manual && activation_in_range a.replacement) e in
    let q = and_parts (activation_in_range a.manual) (activation_in_range a.replacement) p.1 in
    record {
      automatic = small a.automatic p.0;
      manual = small a.manual q.0;
      replacement = small a.replacement q.1;
    }

-- ---- the base

abbrev pub BaseBounded : Base → Type 0
BaseBounded b = Bounded offer_limit base_grain b.value

bid_bounded : (bid : Option ℤ) → bid_in_range bid ≡ true → IfOk (bid_alone bid) BaseBounded
bid_bounded None e = tt
bid_bounded (Some price) e = record { proper = omega arith; fine = omega arith; small = omega (arith, leb-true _ _ e) }

pub base_bounded : (a : Activations) (bid : Option ℤ) → activations_in_range a ≡ true → bid_in_range bid ≡ true → IfOk (base_of a bid) BaseBounded
base_bounded a bid range bids =
    let s = all_small a range in
    cond_both (eqb (activated_kwh a) 0) (bid_alone bid) (Ok (mean a)) (λ r. IfOk r BaseBounded)
    (λ e. bid_bounded bid bids)
    (λ e. record {
      proper = omega (arith, eqb-false (activated_kwh a) 0 e);
      fine = omega arith;
      small = omega (arith, ints);
    })

-- ---- the candidates

abbrev pub CandidateBounded : Fraction → Type 0
CandidateBounded = Bounded price_limit candidate_grain

pub base_as_candidate : (p : Fraction) → Bounded offer_limit base_grain p → CandidateBounded p
base_as_candidate p b = record { proper = b.proper; fine = omega (arith, b.fine); small = omega (arith, b.small) }

pub size_toward : (side : Side) (amount : ℕ) → nat_abs (toward side amount) ≡ amount
size_toward Surplus amount = omega (arith, ints)
size_toward Shortage amount = refl

pub index_bounded : (side : Side) (index : ℤ) → nat_abs index ≤ offer_limit → CandidateBounded (beside_index side index)
index_bounded side index near = record {
  proper = omega arith;
  fine = omega arith;
  small = omega (arith, ints, size_toward side (margin_quarters index));
}

pub scaled_numerator : (kwh : ℕ) (p : Fraction) → kwh ≤ imbalance_limit → Bounded offer_limit base_grain p → kwh * nat_abs p.numerator ≤ imbalance_limit * (offer_limit * p.denominator)
scaled_numerator kwh p few b = mul-le kwh (nat_abs p.numerator) imbalance_limit (offer_limit * p.denominator) few b.small

pub scaled_bounded : (side : Side) (kwh : ℕ) (p : Fraction) → kwh ≤ imbalance_limit → Bounded offer_limit base_grain p → CandidateBounded (scaled side kwh p)
scaled_bounded side kwh p few b = record {
  proper = omega (arith, b.proper);
  fine = omega (arith, b.fine);
  small = omega (arith, size_toward side (kwh * nat_abs p.numerator), scaled_numerator kwh p few b);
}
