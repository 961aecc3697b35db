-- Numbers as bytes, the highest byte first, and the numbers that stand at a place of some bytes.
use Rattle.std.specs.Prelude.{ℕ, ◌+◌, ◌*◌, ◌/◌, ◌%◌, List, [], ◌∷◌, ℤ, slice_index}
use Rattle.std.specs.Int.{w32}
use Rattle.std.proofs.Common.{to_z, of_z}

abbrev pub two : ℕ → List ℕ
two n = (n / 256 % 256) ∷ (n % 256) ∷ []

abbrev pub four : ℕ → List ℕ
four n = (n / 16777216 % 256) ∷ (n / 65536 % 256) ∷ (n / 256 % 256) ∷ (n % 256) ∷ []

abbrev pub eight : ℕ → List ℕ
eight n =
    (n / 72057594037927936 % 256) ∷ (n / 281474976710656 % 256) ∷ (n / 1099511627776 % 256) ∷ (n / 4294967296 % 256) ∷ four n

-- in two's complement: a number below zero is written as the one that is 2 ^ 32 larger
abbrev pub signed_four : ℤ → List ℕ
signed_four z = four (of_z w32 z)

abbrev pub byte_at : List ℕ → ℕ → ℕ
byte_at bytes place = slice_index bytes place

abbrev pub two_at : List ℕ → ℕ → ℕ
two_at bytes place = byte_at bytes place * 256 + byte_at bytes (place + 1)

abbrev pub four_at : List ℕ → ℕ → ℕ
four_at bytes place =
    byte_at bytes place * 16777216 + byte_at bytes (place + 1) * 65536 + byte_at bytes (place + 2) * 256 + byte_at bytes (place + 3)

abbrev pub eight_at : List ℕ → ℕ → ℕ
eight_at bytes place =
    byte_at bytes place * 72057594037927936 + byte_at bytes (place + 1) * 281474976710656
    + byte_at bytes (place + 2) * 1099511627776 + byte_at bytes (place + 3) * 4294967296
    + byte_at bytes (place + 4) * 16777216 + byte_at bytes (place + 5) * 65536 + byte_at bytes (place + 6) * 256
    + byte_at bytes (place + 7)

abbrev pub signed_at : List ℕ → ℕ → ℤ
signed_at bytes place = to_z w32 (four_at bytes place)
