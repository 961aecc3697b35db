-- What is read of an element, and what a write leaves of the others.
use Rattle.std.proofs.Common.{◌≡◌, ℕ, zero, suc, ◌<◌, List, [], ◌∷◌, map, length, get_or, set, Some, sym, refl, ap, ◌∙◌}
use Rattle.std.specs.List.{slice_get}
use Rattle.std.proofs.lemmas.List.{get_or-map, map-set, set-get_or, length-set, get_or-set_same}
use Rattle.std.proofs.lemmas.Option.{slice_get-get_or}

-- a field of the element that stands at a place
pub field : {X Y : Type 0} (f : X → Y) (xs : List X) (i : ℕ) (x : X) (d : Y) → i < length xs → f (get_or xs i x) ≡ get_or (map f xs) i d
field f xs i x d within = sym (get_or-map f xs i x d within)

-- a write that keeps a field of one element keeps it of all
pub field_kept : {X Y : Type 0} (f : X → Y) (xs : List X) (i : ℕ) (x d : X) → i < length xs → f x ≡ f (get_or xs i d) → map f (set xs i x) ≡ map f xs
field_kept f xs i x d within same =
    map-set f xs i x ∙ ap (set (map f xs) i) (same ∙ field f xs i d (f d) within) ∙ set-get_or (map f xs) i (f d)

pub nth_set_same : {X : Type 0} (xs : List X) (i : ℕ) (x : X) → i < length xs → slice_get (set xs i x) i ≡ Some x
nth_set_same xs i x h =
    slice_get-get_or (set xs i x) i x (simp length-set h) ∙ ap Some (get_or-set_same xs i x x h)

pub nth_set_other : {X : Type 0} (xs : List X) (i j : ℕ) (x : X) → (j ≡ i → ⊥) → slice_get (set xs i x) j ≡ slice_get xs j
nth_set_other [] i j x apart = refl
nth_set_other (y ∷ xs) zero zero x apart = absurd (apart refl)
nth_set_other (y ∷ xs) zero (suc j) x apart = refl
nth_set_other (y ∷ xs) (suc i) zero x apart = refl
nth_set_other (y ∷ xs) (suc i) (suc j) x apart = nth_set_other xs i j x (λ e. apart (ap suc e))
