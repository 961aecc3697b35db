-- Which lists of rests a rule accepts, and what a call leaves of a list.
use Rattle.std.specs.Prelude.{ℕ, Bool, true, cond, ◌&&◌, List, [], ◌∷◌, length, ℤ, is_ok, Ok, Err, Result, nat_le, unsigned_abs}
use Rattle.refusal.specs.declared.reason.Reason.TheVariants.{WrongLength, FigureOutOfRange}
use Rattle.refusal.specs.declared.layer.Layer.TheVariants.{Rule}
use Rattle.refusal.specs.declared.refused.Refusal.{Refusal}
use Rattle.refusal.specs.Numbers.{naming_nobody}

abbrev pub most_members : ℕ
most_members = 64

-- in kWh, for surplus and for shortage
abbrev pub rest_limit : ℕ
rest_limit = 500000

abbrev pub in_range : List ℤ → Bool
in_range [] = true
in_range (rest ∷ rests) = nat_le (unsigned_abs rest) rest_limit && in_range rests

-- what a rule answers: it refuses too long a list, and then a rest out of range
abbrev pub verdict : List ℤ → Result Unit Refusal
verdict rests =
    cond (nat_le (length rests) most_members)
    (cond (in_range rests) (Ok tt) (Err (naming_nobody FigureOutOfRange Rule)))
    (Err (naming_nobody WrongLength Rule))

-- what a call leaves of the rests, by a rule that makes `meaning` of those that it accepts: refused, they stay
abbrev pub outcome : (List ℤ → List ℤ) → List ℤ → List ℤ
outcome meaning rests = cond (is_ok (verdict rests)) (meaning rests) rests
