-- What holds of every price, whatever the figures.
use Rattle.std.specs.Prelude.{◌≡◌, ◌≤◌, ℤ, pos, ◌≤ℤ◌, ◌<ℤ◌, Ok, unsigned_abs}
use Rattle.pricing.specs.declared.figures.SystemFigures.{SystemFigures}
use Rattle.pricing.specs.declared.derivation.Side.TheVariants.{Surplus, Shortage}
use Rattle.pricing.specs.declared.derivation.Base.{Base}
use Rattle.pricing.specs.Limits.{price_limit}
use Rattle.pricing.specs.Fractions.{to_nearest}
use Rattle.pricing.specs.Stages.{base_of, beside_index}

-- every price is within the limit; at a surplus it is at most the base and at most the candidate beside the index, at a
-- shortage at least both, each to the nearest whole stotinka as the price is
pub record Lawful (f : SystemFigures) (price : ℤ) : Type 0 where
  pub small : unsigned_abs price ≤ price_limit
  pub surplus : pos 0 <ℤ f.imbalance_kwh → (base : Base) → base_of f.downward f.downward_bid ≡ Ok base →
      (price ≤ℤ to_nearest base.value) × (price ≤ℤ to_nearest (beside_index Surplus f.index))
  pub shortage : f.imbalance_kwh <ℤ pos 0 → (base : Base) → base_of f.upward f.upward_bid ≡ Ok base →
      (to_nearest base.value ≤ℤ price) × (to_nearest (beside_index Shortage f.index) ≤ℤ price)
