-- Netting as much as the smaller side of a set has, by a way of sharing that amount out.
use Rattle.std.specs.Prelude.{◌≡◌, ℕ, min, List, [], ◌∷◌, ℤ, pos, ◌+ℤ◌, ◌-ℤ◌}
use Rattle.sharing.specs.declared.side.Side.{Side}
use Rattle.sharing.specs.declared.side.Side.TheVariants.{Surplus, Shortage}
use Rattle.sharing.specs.Rests.{energies, energy_of_set, netted}

-- what can be netted: the smaller of the set's surplus and its shortage
abbrev pub nettable : ℕ → List ℤ → ℕ
nettable set rests = min (energy_of_set Surplus set rests) (energy_of_set Shortage set rests)

-- the rests without what each member nets, n of his surplus and m of his shortage
abbrev pub taken_off : List ℤ → List ℕ → List ℕ → List ℤ
taken_off [] ns ms = []
taken_off (rest ∷ rests) [] ms = rest ∷ rests
taken_off (rest ∷ rests) (n ∷ ns) [] = rest ∷ rests
taken_off (rest ∷ rests) (n ∷ ns) (m ∷ ms) = (rest -ℤ pos n +ℤ pos m) ∷ taken_off rests ns ms

-- the rests once each side has netted what can be netted: `shares` says what each member nets of it, by what each has
abbrev pub netting : (ℕ → List ℕ → List ℕ) → ℕ → List ℤ → List ℤ
netting shares set rests =
    taken_off rests
    (shares (nettable set rests) (energies Surplus set rests))
    (shares (nettable set rests) (energies Shortage set rests))

-- on each side the members of the set net together exactly what can be netted
abbrev pub NetsAll : ℕ → List ℤ → List ℤ → Type 0
NetsAll set before after = (side : Side) → energy_of_set side set (netted before after) ≡ nettable set before
