-- A day that is added to a set of days is then in it, and no other is that was not.
use Rattle.std.proofs.Common.{◌≡◌, ℕ, zero, suc, ◌+◌, ◌-◌, ◌/◌, ◌%◌, ◌^◌, ◌<◌, ◌||◌, eqb, sym, refl, ap, ◌∙◌, ⊎_elim, pow-suc, arith}
use native.Mathlib.Nat.{div-eq_of_lt, div_self, mul-mod_left}
use lib.Bits.{bit_or}
use Rattle.std.proofs.lemmas.Nat.{or_shr, or_mod, pow-add, pow_pos, shl-shr, pow_below, mod_below}
use Rattle.std.proofs.lemmas.Bool.{cases_order, eq-eqb, ne_eqb}
use Rattle.energy.specs.Layers.{day_in, with_day}

-- of the bits of 2 ^ day only that of the day itself is set
bit_here : (day : ℕ) → 2 ^ day / 2 ^ day % 2 ≡ 1
bit_here day = ap (λ n. n % 2) (div_self (pow_pos day))

bit_past : (day d : ℕ) → day < d → 2 ^ day / 2 ^ d % 2 ≡ 0
bit_past day d later = ap (λ n. n % 2) (div-eq_of_lt (pow_below day d later))

bit_before : (d k : ℕ) → 2 ^ (suc k + d) / 2 ^ d % 2 ≡ 0
bit_before d k =
    ap (λ n. n / 2 ^ d % 2) (pow-add 2 (suc k) d)
    ∙ ap (λ n. n % 2) (shl-shr (2 ^ suc k) d)
    ∙ ap (λ n. n % 2) (pow-suc 2 k)
    ∙ mul-mod_left (2 ^ k) 2

one_day : (day d : ℕ) → eqb (2 ^ day / 2 ^ d % 2) 1 ≡ eqb d day
one_day day d =
    ⊎_elim
    (λ e. ap (λ n. eqb (2 ^ day / 2 ^ n % 2) 1) e ∙ ap (λ n. eqb n 1) (bit_here day) ∙ sym (eq-eqb d day e))
    (⊎_elim
    (λ earlier.
    let apart : day ≡ suc (day - suc d) + d = omega arith in
    ap (λ n. eqb (2 ^ n / 2 ^ d % 2) 1) apart ∙ ap (λ n. eqb n 1) (bit_before d (day - suc d)) ∙ sym (ne_eqb d day (λ same. omega arith)))
    (λ later. ap (λ n. eqb n 1) (bit_past day d later) ∙ sym (ne_eqb d day (λ same. omega arith))))
    (cases_order d day)

joined : (x y : ℕ) → x < 2 → y < 2 → eqb (bit_or x y) 1 ≡ (eqb y 1 || eqb x 1)
joined zero zero h k = refl
joined zero (suc zero) h k = refl
joined zero (suc (suc y)) h k = absurd (omega arith)
joined (suc zero) zero h k = refl
joined (suc zero) (suc zero) h k = refl
joined (suc zero) (suc (suc y)) h k = absurd (omega arith)
joined (suc (suc x)) y h k = absurd (omega arith)

pub day_added : (days day d : ℕ) → day_in (bit_or days (2 ^ day)) d ≡ with_day days day d
day_added days day d =
    ap (λ n. eqb (n % 2) 1) (or_shr days (2 ^ day) d)
    ∙ ap (λ n. eqb n 1) (or_mod (days / 2 ^ d) (2 ^ day / 2 ^ d) 1)
    ∙ joined (days / 2 ^ d % 2) (2 ^ day / 2 ^ d % 2) (mod_below (days / 2 ^ d) 2 (omega arith)) (mod_below (2 ^ day / 2 ^ d) 2 (omega arith))
    ∙ ap (λ b. b || day_in days d) (one_day day d)
