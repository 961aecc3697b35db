-- The decisive candidate: it is as bounded as all of them, and none of them goes before it.
use Rattle.std.proofs.Common.{◌≡◌, ℕ, ◌<◌, ◌≤◌, true, false, ltb, ℤ, nat_abs, ◌≤ℤ◌, IfSome, Some, None, Option, arith}
use lib.Signed.{le_z}
use Rattle.std.proofs.lemmas.Int.{ints}
use Rattle.std.proofs.lemmas.Bool.{cond_both}
use Rattle.rounding.proofs.Distances.{rounding_keeps_order}
use Rattle.pricing.specs.declared.fraction.Fraction.{Fraction}
use Rattle.pricing.specs.declared.derivation.Base.{Base}
use Rattle.pricing.specs.declared.derivation.Side.{Side}
use Rattle.pricing.specs.declared.derivation.Side.TheVariants.{Surplus, Shortage}
use Rattle.pricing.specs.declared.derivation.Stage.TheVariants.{First, Second, Third}
use Rattle.pricing.specs.declared.derivation.Candidate.{Candidate}
use Rattle.pricing.specs.declared.derivation.Candidates.{Candidates}
use Rattle.pricing.specs.Limits.{imbalance_limit, offer_limit, large_imbalance, base_grain}
use Rattle.pricing.specs.Fractions.{at_most, to_nearest, Bounded}
use Rattle.pricing.specs.Stages.{scaled, candidates_of, goes_first, preferred, against_third, decisive}
use Rattle.pricing.proofs.Bounds.{CandidateBounded, base_as_candidate, index_bounded, scaled_bounded}

-- ---- what holds of both holds of the preferred one

preferred_has : (side : Side) (p q : Candidate) (P : Fraction → Type 0) → P p.value → P q.value → P (preferred side p q).value
preferred_has side p q P of_p of_q = cond_both (goes_first side p.value q.value) p q (λ c. P c.value) (λ e. of_p) (λ e. of_q)

third_has : (side : Side) (p : Candidate) (third : Option Fraction) (P : Fraction → Type 0) → P p.value → IfSome third P → P (against_third side p third).value
third_has side p None P of_p of_third = of_p
third_has side p (Some q) P of_p of_third = preferred_has side p (record { stage = Third; value = q }) P of_p of_third

abbrev first : Candidates → Candidate
first c = record { stage = First; value = c.base.value }

abbrev second : Candidates → Candidate
second c = record { stage = Second; value = c.index }

pub record AllBounded (c : Candidates) : Type 0 where
  pub base : CandidateBounded c.base.value
  pub index : CandidateBounded c.index
  pub third : IfSome c.scaled CandidateBounded

pub decisive_bounded : (side : Side) (c : Candidates) → AllBounded c → CandidateBounded (decisive side c).value
decisive_bounded side c b =
    third_has side (preferred side (first c) (second c)) c.scaled CandidateBounded
    (preferred_has side (first c) (second c) CandidateBounded b.base b.index) b.third

pub all_bounded : (side : Side) (kwh : ℕ) (index : ℤ) (base : Base) → kwh ≤ imbalance_limit → nat_abs index ≤ offer_limit → Bounded offer_limit base_grain base.value → AllBounded (candidates_of side kwh index base)
all_bounded side kwh index base few near b = record {
  base = base_as_candidate base.value b;
  index = index_bounded side index near;
  third =
      cond_both (ltb large_imbalance kwh) (Some (scaled side kwh base.value)) None (λ o. IfSome o CandidateBounded)
      (λ e. scaled_bounded side kwh base.value few b) (λ e. tt);
}

-- ---- rounded, the preferred one is no less far than either

abbrev pub Ahead : Side → ℤ → ℤ → Type 0
Ahead Surplus a b = a ≤ℤ b
Ahead Shortage a b = b ≤ℤ a

ahead_refl : (side : Side) (a : ℤ) → Ahead side a a
ahead_refl Surplus a = omega (arith, ints)
ahead_refl Shortage a = omega (arith, ints)

ahead_trans : (side : Side) (a b c : ℤ) → Ahead side a b → Ahead side b c → Ahead side a c
ahead_trans Surplus a b c p q = omega (arith, ints)
ahead_trans Shortage a b c p q = omega (arith, ints)

leZ_le : (a b : ℤ) → le_z a b ≡ true → a ≤ℤ b
leZ_le a b e = grind (arith, ints)

leZ_ge : (a b : ℤ) → le_z a b ≡ false → b ≤ℤ a
leZ_ge a b e = grind (arith, ints)

module _ (p q : Fraction) (proper_p : 0 < p.denominator) (proper_q : 0 < q.denominator) where
  below : at_most p q ≡ true → to_nearest p ≤ℤ to_nearest q
  below e =
      rounding_keeps_order p.numerator p.denominator q.numerator q.denominator proper_p proper_q (leZ_le _ _ e)

  above : at_most p q ≡ false → to_nearest q ≤ℤ to_nearest p
  above e =
      rounding_keeps_order q.numerator q.denominator p.numerator p.denominator proper_q proper_p (leZ_ge _ _ e)

goes_ahead : (side : Side) (p q : Fraction) → 0 < p.denominator → 0 < q.denominator → goes_first side p q ≡ true → Ahead side (to_nearest p) (to_nearest q)
goes_ahead Surplus p q proper_p proper_q e = below p q proper_p proper_q e
goes_ahead Shortage p q proper_p proper_q e = below q p proper_q proper_p e

comes_after : (side : Side) (p q : Fraction) → 0 < p.denominator → 0 < q.denominator → goes_first side p q ≡ false → Ahead side (to_nearest q) (to_nearest p)
comes_after Surplus p q proper_p proper_q e = above p q proper_p proper_q e
comes_after Shortage p q proper_p proper_q e = above q p proper_q proper_p e

module _ (side : Side) (p q : Candidate) (proper_p : 0 < p.value.denominator) (proper_q : 0 < q.value.denominator) where
  ahead_of_one : Ahead side (to_nearest (preferred side p q).value) (to_nearest p.value)
  ahead_of_one =
      cond_both (goes_first side p.value q.value) p q (λ c. Ahead side (to_nearest c.value) (to_nearest p.value))
      (λ e. ahead_refl side (to_nearest p.value))
      (λ e. comes_after side p.value q.value proper_p proper_q e)

  ahead_of_other : Ahead side (to_nearest (preferred side p q).value) (to_nearest q.value)
  ahead_of_other =
      cond_both (goes_first side p.value q.value) p q (λ c. Ahead side (to_nearest c.value) (to_nearest q.value))
      (λ e. goes_ahead side p.value q.value proper_p proper_q e)
      (λ e. ahead_refl side (to_nearest q.value))

ahead_with_third : (side : Side) (p : Candidate) (third : Option Fraction) → 0 < p.value.denominator → IfSome third CandidateBounded → Ahead side (to_nearest (against_third side p third).value) (to_nearest p.value)
ahead_with_third side p None proper b = ahead_refl side (to_nearest p.value)
ahead_with_third side p (Some q) proper b = ahead_of_one side p (record { stage = Third; value = q }) proper b.proper

module _ (side : Side) (c : Candidates) (b : AllBounded c) where
  two_proper : 0 < (preferred side (first c) (second c)).value.denominator
  two_proper = preferred_has side (first c) (second c) (λ p. 0 < p.denominator) b.base.proper b.index.proper

  with_third : Ahead side (to_nearest (decisive side c).value) (to_nearest (preferred side (first c) (second c)).value)
  with_third = ahead_with_third side (preferred side (first c) (second c)) c.scaled two_proper b.third

  pub ahead_of_base : Ahead side (to_nearest (decisive side c).value) (to_nearest c.base.value)
  ahead_of_base = ahead_trans side _ _ _ with_third (ahead_of_one side (first c) (second c) b.base.proper b.index.proper)

  pub ahead_of_index : Ahead side (to_nearest (decisive side c).value) (to_nearest c.index)
  ahead_of_index = ahead_trans side _ _ _ with_third (ahead_of_other side (first c) (second c) b.base.proper b.index.proper)
