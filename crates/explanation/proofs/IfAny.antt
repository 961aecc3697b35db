-- The text of what may not be there, printed by a part that is made of it.
use Rattle.std.proofs.Common.{◌≡◌, ℕ, List, Some, None, Option, ap}
use Rattle.std.specs.Option.{MatchOption, IsSomeAnd}
use Rattle.explanation.specs.Words.{if_any, text_if_any}

pub part_text : {X P : Type 0} {Q : X → P → Type 0} (text : X → List ℕ) (output : P → Option (List ℕ)) (o : Option X) (part : Option P) → MatchOption o (part ≡ None) (λ x. IsSomeAnd part (Q x)) → ((x : X) (y : P) → Q x y → output y ≡ Some (text x)) → text_if_any output part ≡ Some (if_any text o)
part_text text output None part made is = ap (text_if_any output) made
part_text text output (Some x) None made is = absurd made
part_text text output (Some x) (Some y) made is = is x y made
