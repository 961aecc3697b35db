-- Three costs that are in range add up within 64 bits.
use Rattle.std.proofs.Common.{◌≡◌, ◌+ℤ◌, arith, w64, to_z, of_z}
use Rattle.std.proofs.lemmas.Int.{ints}
use Rattle.pricing.specs.Stages.{cost}
use Rattle.pricing.proofs.Bounds.{all_small}
use Rattle.pricing.proofs.figures.Activations.cost.Goals as goal
use Rattle.pricing.proofs.figures.Activations.cost.Goals.{After-cost-3}

pub overflow_add-result : goal.overflow_add-result
overflow_add-result c = let s = all_small c.args.self.now c.requires in omega (arith, ints)

two : (c : After-cost-3) → to_z w64 (of_z w64 (to_z w64 (of_z w64 c.cost-2.result) +ℤ to_z w64 (of_z w64 c.cost-3.result))) ≡ cost c.args.self.now.manual +ℤ cost c.args.self.now.replacement
two c = let s = all_small c.args.self.now c.requires in omega (arith, ints)

pub overflow_add-result-2 : goal.overflow_add-result-2
overflow_add-result-2 c =
    let s = all_small c.args.self.now c.requires in omega (arith, ints, two (goal.at.overflow_add-result-2 c).After-cost-3)

pub returns : goal.returns
returns c =
    let s = all_small c.args.self.now c.requires in omega (arith, ints, two (goal.at.returns c).After-cost-3)
