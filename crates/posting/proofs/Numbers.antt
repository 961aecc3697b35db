-- Numbers and their bytes: a number read from its own bytes is itself, and bytes are those of the number read from them.
use Rattle.std.proofs.Common.{◌≡◌, ℕ, zero, suc, ◌+◌, ◌*◌, ◌/◌, ◌%◌, ◌^◌, ◌<◌, List, [], ◌∷◌, length, get_or, ℤ, sym, refl, ap, ◌∙◌, arith, w32, SFits, to_z, of_z}
use mir.Facts.{sfits_to_z}
use Rattle.std.proofs.lemmas.Nat.{shr-shr, div-add-mod'}
use Rattle.std.proofs.lemmas.Int.{ints, to_z-of_z, of_z-to_z}
use Rattle.posting.specs.Bytes.{two, four, eight, signed_four, two_at, four_at, eight_at, signed_at}

-- ---- from a number to bytes and back

pub two_back : (n : ℕ) → n < 2 ^ 16 → two_at (two n) 0 ≡ n
two_back n h = omega arith

four_join : (n a b c x y z w : ℕ) → n ≡ a * 256 + w → a ≡ b * 256 + z → b ≡ c * 256 + y → x ≡ c → x * 16777216 + y * 65536 + z * 256 + w ≡ n
four_join n a b c x y z w e f g k = omega arith

pub four_back : (n : ℕ) → n < 2 ^ 32 → four_at (four n) 0 ≡ n
four_back n h =
    let small : n / 16777216 % 256 ≡ n / 16777216 = omega arith in
    four_join n (n / 256) (n / 65536) (n / 16777216) _ _ _ _ (sym (div-add-mod' n 256))
    (sym (div-add-mod' (n / 256) 256) ∙ ap (λ k. k * 256 + n / 256 % 256) (shr-shr n 8 8))
    (sym (div-add-mod' (n / 65536) 256) ∙ ap (λ k. k * 256 + n / 65536 % 256) (shr-shr n 16 8))
    small

pub eight_back : (n : ℕ) → n < 2 ^ 64 → eight_at (eight n) 0 ≡ n
eight_back n h = omega arith

pub signed_back : (z : ℤ) → SFits w32 z → signed_at (signed_four z) 0 ≡ z
signed_back z f =
    let small : of_z w32 z < 2 ^ 32 = omega (arith, ints) in
    ap (to_z w32) (four_back (of_z w32 z) small) ∙ to_z-of_z w32 z f

-- ---- from bytes to a number and back

-- n elements of a list from a place on
abbrev pub from : ℕ → ℕ → List ℕ → List ℕ
from place zero xs = []
from place (suc n) xs = get_or xs place 0 ∷ from (suc place) n xs

from_past : (n place x : ℕ) (xs : List ℕ) → from (suc place) n (x ∷ xs) ≡ from place n xs
from_past zero place x xs = refl
from_past (suc n) place x xs = ap (λ ys. get_or xs place 0 ∷ ys) (from_past n (suc place) x xs)

-- a list of n elements is those elements
pub spelled : (n : ℕ) (xs : List ℕ) → length xs ≡ n → from 0 n xs ≡ xs
spelled zero [] e = refl
spelled zero (x ∷ xs) e = absurd (omega arith)
spelled (suc n) [] e = absurd (omega arith)
spelled (suc n) (x ∷ xs) e = ap (λ ys. x ∷ ys) (from_past n 0 x xs ∙ spelled n xs (omega arith))

abbrev pub Bytes : List ℕ → Type 0
Bytes xs = (i : ℕ) → get_or xs i 0 < 256

module _ (xs : List ℕ) (bytes : Bytes xs) (k : ℕ) where
  pub two_small : two_at xs k < 2 ^ 16
  two_small = omega (arith, bytes k, bytes (k + 1))

  pub four_small : four_at xs k < 2 ^ 32
  four_small = omega (arith, bytes k, bytes (k + 1), bytes (k + 2), bytes (k + 3))

  pub eight_small : eight_at xs k < 2 ^ 64
  eight_small =
      omega (arith, bytes k, bytes (k + 1), bytes (k + 2), bytes (k + 3), bytes (k + 4), bytes (k + 5), bytes (k + 6), bytes (k + 7))

  pub eight_of : eight (eight_at xs k) ≡ get_or xs k 0 ∷ get_or xs (k + 1) 0 ∷ get_or xs (k + 2) 0 ∷ get_or xs (k + 3) 0 ∷ get_or xs (k + 4) 0 ∷ get_or xs (k + 5) 0 ∷ get_or xs (k + 6) 0 ∷ get_or xs (k + 7) 0 ∷ []
  eight_of =
      let b0 = bytes k in
      let b1 = bytes (k + 1) in
      let b2 = bytes (k + 2) in
      let b3 = bytes (k + 3) in
      let b4 = bytes (k + 4) in
      let b5 = bytes (k + 5) in
      let b6 = bytes (k + 6) in
      let b7 = bytes (k + 7) in
      let p0 : eight_at xs k / 72057594037927936 % 256 ≡ get_or xs k 0 = omega arith in
      let p1 : eight_at xs k / 281474976710656 % 256 ≡ get_or xs (k + 1) 0 = omega arith in
      let p2 : eight_at xs k / 1099511627776 % 256 ≡ get_or xs (k + 2) 0 = omega arith in
      let p3 : eight_at xs k / 4294967296 % 256 ≡ get_or xs (k + 3) 0 = omega arith in
      let p4 : eight_at xs k / 16777216 % 256 ≡ get_or xs (k + 4) 0 = omega arith in
      let p5 : eight_at xs k / 65536 % 256 ≡ get_or xs (k + 5) 0 = omega arith in
      let p6 : eight_at xs k / 256 % 256 ≡ get_or xs (k + 6) 0 = omega arith in
      let p7 : eight_at xs k % 256 ≡ get_or xs (k + 7) 0 = omega arith in
      λ i. p0 i ∷ p1 i ∷ p2 i ∷ p3 i ∷ p4 i ∷ p5 i ∷ p6 i ∷ p7 i ∷ []

  pub two_of : two (two_at xs k) ≡ get_or xs k 0 ∷ get_or xs (k + 1) 0 ∷ []
  two_of =
      let p : two_at xs k / 256 % 256 ≡ get_or xs k 0 = omega (arith, bytes k, bytes (k + 1)) in
      let q : two_at xs k % 256 ≡ get_or xs (k + 1) 0 = omega (arith, bytes k, bytes (k + 1)) in
      λ i. p i ∷ q i ∷ []

  pub four_of : four (four_at xs k) ≡ get_or xs k 0 ∷ get_or xs (k + 1) 0 ∷ get_or xs (k + 2) 0 ∷ get_or xs (k + 3) 0 ∷ []
  four_of =
      let b0 = bytes k in
      let b1 = bytes (k + 1) in
      let b2 = bytes (k + 2) in
      let b3 = bytes (k + 3) in
      let p : four_at xs k / 16777216 % 256 ≡ get_or xs k 0 = omega arith in
      let q : four_at xs k / 65536 % 256 ≡ get_or xs (k + 1) 0 = omega arith in
      let r : four_at xs k / 256 % 256 ≡ get_or xs (k + 2) 0 = omega arith in
      let s : four_at xs k % 256 ≡ get_or xs (k + 3) 0 = omega arith in
      λ i. p i ∷ q i ∷ r i ∷ s i ∷ []

  pub signed_of : signed_four (signed_at xs k) ≡ get_or xs k 0 ∷ get_or xs (k + 1) 0 ∷ get_or xs (k + 2) 0 ∷ get_or xs (k + 3) 0 ∷ []
  signed_of = ap four (of_z-to_z w32 (four_at xs k) four_small) ∙ four_of

  pub signed_small : SFits w32 (signed_at xs k)
  signed_small = sfits_to_z (record { fits = four_small })
