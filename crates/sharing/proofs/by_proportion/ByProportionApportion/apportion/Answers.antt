-- A share of the amount fits what a member has, and where nobody has anything nothing is shared.
use Rattle.std.proofs.Common.{◌≡◌, ◌+◌, ◌*◌, ◌/◌, get_or, sym, arith}
use Rattle.sharing.proofs.Amounts.{modest_sum}
use Rattle.sharing.specs.Kept.Proportions.{floor_step}
use Rattle.sharing.proofs.Proportions.{owned_within, proportion_none}
use Rattle.sharing.proofs.by_proportion.ByProportionApportion.apportion.Goals as goal

pub total_of-requires : goal.total_of-requires
total_of-requires c = omega (arith, modest_sum c.args.own.now c.requires.modest)

pub returns-then-all-eq0 : goal.returns-then-all-eq0
returns-then-all-eq0 c = sym (proportion_none c.args.amount _ 0 c.args.own.now (omega arith) (omega arith))

pub overflow_cast-x : goal.overflow_cast-x
overflow_cast-x c =
    let all = c.from-all.result in
    let owned = c.loop-x.owned in
    let small = modest_sum c.args.own.now c.requires.modest in
    let within = owned_within c.args.amount all owned c.loop-x.x-index c.loop-x.own (omega arith) c.loop-x.invariant.1 in
    let step = floor_step c.args.amount all owned (get_or c.loop-x.own c.loop-x.x-index 0) (omega arith) in
    let same : c.from.result * (owned + c.from-owned.result) / all ≡ c.args.amount * (owned + get_or c.loop-x.own c.loop-x.x-index 0) / all =
    λ i. c.from.ensures i * (owned + c.from-owned.ensures i) / all in
    omega (arith, same)
