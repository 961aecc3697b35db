-- The shares before the index are written, and those to come share out what is left.
use Rattle.std.proofs.Common.{◌≡◌, ◌++◌, take, drop}
use Rattle.sharing.specs.InOrder.{shares_in_order}
use Rattle.sharing.proofs.by_order.ByOrderApportion.apportion.Given as goal

abbrev pub invariant-loop-x : goal.invariant-loop-x
invariant-loop-x l = take l.x-index l.own ++ shares_in_order l.left (drop l.x-index l.own) ≡ shares_in_order l.amount l.initial.own
