-- The shares before the index are written, and the running sums are those of the members before.
use Rattle.std.proofs.Common.{◌≡◌, ◌+◌, ◌*◌, ◌/◌, ◌++◌, take, drop, sum}
use Rattle.sharing.specs.Proportional.{shares_after}
use Rattle.sharing.proofs.by_proportion.ByProportionApportion.apportion.Given as goal

abbrev pub invariant-loop-x : goal.invariant-loop-x
invariant-loop-x l =
    (take l.x-index l.own ++ shares_after l.owned l.amount l.all (drop l.x-index l.own) ≡ shares_after 0 l.amount l.all l.initial.own)
    × (l.owned + sum (drop l.x-index l.own) ≡ l.all)
    × (l.given ≡ l.amount * l.owned / l.all)
