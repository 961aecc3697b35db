-- What the calls ask: the energies are modest, and so are the shares of them.
use Rattle.std.proofs.Common.{arith}
use Rattle.sharing.specs.Kept.Accepting.{accepted_parts, in_range_at}
use Rattle.sharing.proofs.Amounts.{modest_sum}
use Rattle.sharing.proofs.Energies.{listed_modest, shares_long, shares_small}
use Rattle.sharing.proofs.netting.net.Goals as goal

pub total_of-requires : goal.total_of-requires
total_of-requires g c = omega (arith, modest_sum _ (listed_modest _ _ _ _ c.list.ensures c.requires))

pub total_of-requires-2 : goal.total_of-requires-2
total_of-requires-2 g c = omega (arith, modest_sum _ (listed_modest _ _ _ _ c.list-2.ensures c.requires))

pub apportion-requires : goal.apportion-requires
apportion-requires g c = record { enough = omega arith; modest = listed_modest _ _ _ _ c.list.ensures c.requires }

pub apportion-requires-2 : goal.apportion-requires-2
apportion-requires-2 g c = record { enough = omega arith; modest = listed_modest _ _ _ _ c.list-2.ensures c.requires }

pub take_off-requires : goal.take_off-requires
take_off-requires g c =
    let xs = c.args.rests.now in
    let n = c.min-amount.result in
    let whole = g.met.P.Apportion.whole c.args.by.now n in
    let surplus = whole _ (listed_modest _ _ _ _ c.list.ensures c.requires) (omega arith) in
    let shortage = whole _ (listed_modest _ _ _ _ c.list-2.ensures c.requires) (omega arith) in
    record {
      surplus_long = shares_long _ _ _ _ c.list.ensures c.requires n _ _ c.apportion.ensures surplus;
      shortage_long = shares_long _ _ _ _ c.list-2.ensures c.requires n _ _ c.apportion-2.ensures shortage;
      modest = λ k h. in_range_at xs k h (accepted_parts xs c.requires).1;
      surplus_modest = shares_small _ _ _ _ c.list.ensures c.requires n _ _ c.apportion.ensures surplus;
      shortage_modest = shares_small _ _ _ _ c.list-2.ensures c.requires n _ _ c.apportion-2.ensures shortage;
    }
