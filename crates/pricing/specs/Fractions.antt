-- Exact fractions, compared by their cross products.
use Rattle.std.specs.Prelude.{ℕ, ◌*◌, ◌<◌, ◌≤◌, Bool, ℤ, pos, ◌*ℤ◌, int_le, unsigned_abs}
use Rattle.rounding.specs.Nearest.{rounding}
use Rattle.pricing.specs.declared.fraction.Fraction.{Fraction}

infix 20 ◌over◌
abbrev pub ◌over◌ : ℤ → ℕ → Fraction
numerator over denominator = record { numerator = numerator; denominator = denominator }

abbrev pub at_most : Fraction → Fraction → Bool
at_most p q = int_le (p.numerator *ℤ pos q.denominator) (q.numerator *ℤ pos p.denominator)

abbrev pub to_nearest : Fraction → ℤ
to_nearest p = rounding p.numerator p.denominator

-- a number of at most this size, whose denominator is at most this
pub record Bounded (size finest : ℕ) (p : Fraction) : Type 0 where
  pub proper : 0 < p.denominator
  pub fine : p.denominator ≤ finest
  pub small : unsigned_abs p.numerator ≤ size * p.denominator
