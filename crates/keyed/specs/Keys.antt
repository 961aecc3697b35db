-- When two keys are one.
use Rattle.std.specs.Prelude.{◌≡◌, Bool, Decides, nat_eq}
use Rattle.std.proofs.lemmas.Bool.{eqb-true, eq-eqb}

-- a test that tells of any two keys whether they are one
abbrev pub Exact : {K : Type 0} → (K → K → Bool) → Type 0
Exact {K} same = (x y : K) → Decides (same x y) (x ≡ y)

-- two numbers are one key if they are equal
pub number_exact : Exact nat_eq
number_exact x y = (eqb-true x y, eq-eqb x y)
