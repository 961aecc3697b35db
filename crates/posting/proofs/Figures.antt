-- System figures, read part by part from the front of what is left.
use Rattle.std.proofs.Common.{◌≡◌, ℕ, ◌+◌, ◌-◌, ◌*◌, ◌≤◌, eqb, List, length, get_or, take, drop, ℤ, None, Option, refl, ap, ◌∙◌, sym, arith, length-drop, w32, to_z}
use Rattle.std.proofs.lemmas.List.{get_or-drop, drop-drop}
use Rattle.std.proofs.lemmas.Slice.{between_to_end}
use Rattle.std.proofs.lemmas.Bool.{eqb-true, eq-eqb, cond_both, cond-true}
use Rattle.std.specs.Option.{option_map}
use Rattle.pricing.specs.declared.figures.Activations.{Activations}
use Rattle.posting.specs.declared.posting.Posting.TheVariants.{Figures}
use Rattle.posting.specs.Bytes.{byte_at, two_at, four_at, signed_at}
use Rattle.posting.specs.Reading.{Splits, activation_at, activations_at, bids_in, figures_in}

-- ---- what stands at a place behind bytes that are dropped

module _ (k : ℕ) (xs : List ℕ) where
  byte_further : (i j : ℕ) → k + i ≡ j → byte_at (drop k xs) i ≡ byte_at xs j
  byte_further i j e = get_or-drop k xs i 0 ∙ ap (λ n. get_or xs n 0) e

  four_further : (i j : ℕ) → k + i ≡ j → four_at (drop k xs) i ≡ four_at xs j
  four_further i j e =
      let a = byte_further i j e in
      let b = byte_further (i + 1) (j + 1) (omega arith) in
      let c = byte_further (i + 2) (j + 2) (omega arith) in
      let d = byte_further (i + 3) (j + 3) (omega arith) in
      λ t. a t * 16777216 + b t * 65536 + c t * 256 + d t

  signed_further : (i j : ℕ) → k + i ≡ j → signed_at (drop k xs) i ≡ signed_at xs j
  signed_further i j e = ap (to_z w32) (four_further i j e)

  activation_further : (i j : ℕ) → k + i ≡ j → activation_at (drop k xs) i ≡ activation_at xs j
  activation_further i j e =
      let kwh = four_further i j e in
      let price = signed_further (i + 4) (j + 4) (omega arith) in
      λ t. record { kwh = kwh t; price = price t }

  activations_further : activations_at (drop k xs) 0 ≡ activations_at xs k
  activations_further =
      let automatic = activation_further 0 k (omega arith) in
      let manual = activation_further 8 (k + 8) refl in
      let replacement = activation_further 16 (k + 16) refl in
      λ t. record { automatic = automatic t; manual = manual t; replacement = replacement t }

-- ---- figures

-- no other number of bytes are figures
pub none_short : (fields : List ℕ) → (length fields ≡ 67 → ⊥) → None ≡ figures_in fields
none_short fields other =
    cond_both (eqb (length fields) 67) _ None (λ o. None ≡ o) (λ e. absurd (other (eqb-true (length fields) 67 e))) (λ _. refl)

module _ (fields second : List ℕ) (downward : Activations) (six : 6 ≤ length fields) (first : Splits (take (length fields - 6) (drop 6 fields)) 24 (activations_at (take (length fields - 6) (drop 6 fields)) 0) downward second) where
  second_is : second ≡ drop 30 fields
  second_is = first.behind ∙ ap (drop 24) (between_to_end fields 6 (length fields) (omega arith)) ∙ drop-drop 24 6 fields

  pub second_long : length second ≡ length fields - 30
  second_long = ap length second_is ∙ length-drop 30 fields

  downward_is : downward ≡ activations_at fields 6
  downward_is =
      first.value
      ∙ ap (λ xs. activations_at xs 0) (between_to_end fields 6 (length fields) (omega arith))
      ∙ activations_further 6 fields

  module _ (third : List ℕ) (upward : Activations) (then : Splits second 24 (activations_at second 0) upward third) where
    third_is : third ≡ drop 54 fields
    third_is = then.behind ∙ ap (drop 24) second_is ∙ drop-drop 24 30 fields

    pub third_long : length third ≡ length fields - 54
    third_long = ap length third_is ∙ length-drop 54 fields

    upward_is : upward ≡ activations_at fields 30
    upward_is = then.value ∙ ap (λ xs. activations_at xs 0) second_is ∙ activations_further 30 fields

    bids_are : bids_in (byte_at third 0) (signed_at third 1) (signed_at third 5) ≡ bids_in (byte_at fields 54) (signed_at fields 55) (signed_at fields 59)
    bids_are =
        let flags = ap (λ xs. byte_at xs 0) third_is ∙ byte_further 54 fields 0 54 refl in
        let down = ap (λ xs. signed_at xs 1) third_is ∙ signed_further 54 fields 1 55 refl in
        let up = ap (λ xs. signed_at xs 5) third_is ∙ signed_further 54 fields 5 59 refl in
        λ t. bids_in (flags t) (down t) (up t)

    pub figures_told : (period : ℕ) (imbalance index : ℤ) (bids : Option (Option ℤ × Option ℤ)) → length third ≡ 13 → period ≡ two_at fields 0 → imbalance ≡ signed_at fields 2 → index ≡ signed_at third 9 → bids ≡ bids_in (byte_at third 0) (signed_at third 1) (signed_at third 5) → option_map (λ b. Figures period (record {
      imbalance_kwh = imbalance;
      downward = downward;
      upward = upward;
      downward_bid = b.0;
      upward_bid = b.1;
      index = index;
    })) bids ≡ figures_in fields
    figures_told period imbalance index bids long p g x is =
        let all : length fields ≡ 67 = omega (arith, third_long) in
        let last = x ∙ ap (λ xs. signed_at xs 9) third_is ∙ signed_further 54 fields 9 63 refl in
        let told = is ∙ bids_are in
        (λ t. option_map (λ (b : Option ℤ × Option ℤ). Figures (p t) (record {
          imbalance_kwh = g t;
          downward = downward_is t;
          upward = upward_is t;
          downward_bid = b.0;
          upward_bid = b.1;
          index = last t;
        })) (told t))
        ∙ sym (cond-true _ _ None (eq-eqb (length fields) 67 all))
