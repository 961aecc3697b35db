-- A bounded candidate has a rounded value, of at most 32 bits.
use Rattle.std.proofs.Common.{◌≡◌, ◌≤◌, ℤ, nat_abs, Some, Option, ◌∙◌, arith}
use Rattle.std.proofs.lemmas.Int.{ints}
use Rattle.rounding.proofs.Distances.{rounding_within, rounded_some}
use Rattle.pricing.specs.Fractions.{to_nearest}
use Rattle.pricing.specs.Limits.{price_limit}
use Rattle.pricing.proofs.price.whole_price.Goals as goal
use Rattle.pricing.proofs.price.whole_price.Goals.{After-unwrap}

same : (o : Option ℤ) (a b : ℤ) → o ≡ Some a → o ≡ Some b → a ≡ b
same o a b p q = cc

value : (c : After-unwrap) → c.unwrap.result ≡ to_nearest c.args.candidate
value c =
    let p = c.args.candidate in
    same c.rounded.result _ _ c.unwrap.ensures
    (c.rounded.ensures ∙ rounded_some p.numerator p.denominator c.requires.proper)

small : (c : After-unwrap) → nat_abs c.unwrap.result ≤ price_limit
small c =
    let p = c.args.candidate in
    rw (value c) (rounding_within p.numerator p.denominator price_limit c.requires.proper c.requires.small)

pub overflow_cast-result : goal.overflow_cast-result
overflow_cast-result c = omega (arith, ints, small (goal.at.overflow_cast-result c).After-unwrap)

pub returns : goal.returns
returns c = let s = (goal.at.returns c).After-unwrap in omega (arith, ints, small s, value s)
