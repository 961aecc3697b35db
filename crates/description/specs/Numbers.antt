-- The numbers that a description may hold.
use Rattle.std.specs.Prelude.{ℕ, ◌+◌, ◌-◌, ◌*◌, Bool, cond, ◌&&◌, List, [], ◌∷◌, length, ℤ, pos, neg_ℤ, Some, None, Option, ◌==◌, nat_le}
use Rattle.std.specs.Option.{option_map}

-- `0` to `9`
abbrev pub is_digit : ℕ → Bool
is_digit byte = nat_le 48 byte && nat_le byte 57

-- the number that digits write after digits that write `before`; none where a byte is no digit
abbrev pub digits_after : ℕ → List ℕ → Option ℕ
digits_after before [] = Some before
digits_after before (byte ∷ more) = cond (is_digit byte) (digits_after (before * 10 + (byte - 48)) more) None

-- one to nine digits
abbrev pub unsigned_number : List ℕ → Option ℕ
unsigned_number word = cond (nat_le 1 (length word) && nat_le (length word) 9) (digits_after 0 word) None

-- the same, or a minus sign, byte 45, before it
abbrev pub signed_number : List ℕ → Option ℤ
signed_number [] = None
signed_number (byte ∷ more) = cond (byte == 45) (option_map (λ n. neg_ℤ (pos n)) (unsigned_number more)) (option_map pos (unsigned_number (byte ∷ more)))
