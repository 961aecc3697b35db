-- What a test of every element says of each.
use Rattle.std.proofs.Common.{◌≡◌, ℕ, zero, suc, ◌<◌, Bool, true, List, [], ◌∷◌, length, get_or, refl, arith}
use Rattle.std.proofs.lemmas.Bool.{and_parts, and_from}
use Rattle.ledger.specs.Judgement.{every}

pub every_at : {X : Type 0} (p : X → Bool) (xs : List X) (i : ℕ) (d : X) → every p xs ≡ true → i < length xs → p (get_or xs i d) ≡ true
every_at p [] i d e h = absurd (omega arith)
every_at p (x ∷ xs) zero d e h = (and_parts _ _ e).0
every_at p (x ∷ xs) (suc i) d e h = every_at p xs i d (and_parts _ _ e).1 (omega arith)

pub every_from : {X : Type 0} (p : X → Bool) (d : X) (xs : List X) → ((i : ℕ) → i < length xs → p (get_or xs i d) ≡ true) → every p xs ≡ true
every_from p d [] h = refl
every_from p d (x ∷ xs) h = and_from _ _ (h 0 (omega arith)) (every_from p d xs (λ i l. h (suc i) (omega arith)))
