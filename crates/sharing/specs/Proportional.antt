-- The rule that nets in proportion to what each member has.
use Rattle.std.specs.Prelude.{ℕ, ◌+◌, ◌-◌, ◌*◌, ◌/◌, ◌<◌, List, [], ◌∷◌, ℤ, sum}
use Rattle.sharing.specs.declared.side.Side.{Side}
use Rattle.sharing.specs.Rests.{energy_of_member, energy_of_set, netted}
use Rattle.sharing.specs.Netting.{nettable, netting, NetsAll}

-- in member order, where the members before have u of all: `/` drops the fraction, and by 0 it gives 0
abbrev pub shares_after : ℕ → ℕ → ℕ → List ℕ → List ℕ
shares_after u amount all [] = []
shares_after u amount all (x ∷ have) =
    (amount * (u + x) / all - amount * u / all) ∷ shares_after (u + x) amount all have

abbrev pub shares_in_proportion : ℕ → List ℕ → List ℕ
shares_in_proportion amount have = shares_after 0 amount (sum have) have

-- what the rule makes of a set and a list of rests
abbrev pub proportional : ℕ → List ℤ → List ℤ
proportional set rests = netting shares_in_proportion set rests

-- n differs from amount × x ÷ all by less than one
abbrev pub NearShare : ℕ → ℕ → ℕ → ℕ → Type 0
NearShare n amount x all = (n * all < amount * x + all) × (amount * x < n * all + all)

-- The method by weights: on each side a member nets own ÷ all × what can be netted, to within one kWh, and the members
-- of the set net together exactly what can be netted.
pub record ByWeight (set : ℕ) (before after : List ℤ) : Type 0 where
  pub near_share : (side : Side) (i : ℕ) → 0 < energy_of_set side set before
      → NearShare (energy_of_member i side set (netted before after)) (nettable set before) (energy_of_member i side set before) (energy_of_set side set before)
  pub nets_all : NetsAll set before after
