-- What an accepted call leaves is netted by weight.
use Rattle.std.proofs.Common.{◌≡◌, rules}
use Rattle.sharing.specs.Proportional.{ByWeight, proportional}
use Rattle.sharing.specs.Verdict.{verdict, outcome}
use Rattle.sharing.proofs.Accepting.{made_of_outcome}
use Rattle.sharing.proofs.Weights.{proportional_by_weight}
use Rattle.sharing.proofs.by_proportion.share_by_weight.Goals as goal

pub returns-clause-weights : goal.returns-clause-weights
returns-clause-weights c =
    let xs = c.args.rests.now in
    let s = c.args.set in
    let accepted : c.share.result ≡ verdict xs = search rules in
    let left : c.share.new.rests ≡ outcome (proportional s) xs = search rules in
    made_of_outcome (ByWeight s xs) (proportional s) xs _ _ accepted left (proportional_by_weight s xs)
