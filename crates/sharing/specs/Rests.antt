-- Members and their rests. A rest is energy in kWh that is not balanced yet: above zero surplus, below zero shortage.
use Rattle.std.specs.Prelude.{ℕ, suc, ◌+◌, ◌/◌, ◌%◌, ◌^◌, Bool, cond, List, [], ◌∷◌, ℤ, pos, negsuc, ◌+ℤ◌, ◌-ℤ◌, sum, ◌==◌, slice_index}
use Rattle.sharing.specs.declared.side.Side.{Side}
use Rattle.sharing.specs.declared.side.Side.TheVariants.{Surplus, Shortage}

-- whether member i is in a set: bit i of the set says so, and bits past the list of members say nothing
abbrev pub in_set : ℕ → ℕ → Bool
in_set set i = (set / 2 ^ i % 2) == 1

-- the energy of a rest on one side; negsuc n is the rest -(n + 1)
abbrev pub energy : Side → ℤ → ℕ
energy Surplus (pos n) = n
energy Surplus (negsuc n) = 0
energy Shortage (pos n) = 0
energy Shortage (negsuc n) = suc n

-- the energy of each member on one side, where the first of the list is member i: none outside the set
abbrev pub energies_from : ℕ → Side → ℕ → List ℤ → List ℕ
energies_from i side set [] = []
energies_from i side set (rest ∷ rests) = cond (in_set set i) (energy side rest) 0 ∷ energies_from (i + 1) side set rests

abbrev pub energies : Side → ℕ → List ℤ → List ℕ
energies side set rests = energies_from 0 side set rests

-- the energy of one member on one side, and of the whole set
abbrev pub energy_of_member : ℕ → Side → ℕ → List ℤ → ℕ
energy_of_member i side set rests = slice_index (energies side set rests) i

abbrev pub energy_of_set : Side → ℕ → List ℤ → ℕ
energy_of_set side set rests = sum (energies side set rests)

-- the sum of all rests
abbrev pub total : List ℤ → ℤ
total [] = pos 0
total (rest ∷ rests) = rest +ℤ total rests

-- the netted energy of each member: his old rest less the new one
abbrev pub netted : List ℤ → List ℤ → List ℤ
netted [] after = []
netted (old ∷ before) [] = []
netted (old ∷ before) (new ∷ after) = (old -ℤ new) ∷ netted before after
