-- An accepted call nets all that can be netted.
use Rattle.std.proofs.Common.{◌≡◌, Ok, rules}
use Rattle.sharing.specs.Verdict.{verdict}
use Rattle.sharing.proofs.Netted.{netting_nets_all}
use Rattle.sharing.proofs.netting.NettingSharingRule.share.Goals as goal

pub returns-clause-nets_all : goal.returns-clause-nets_all
returns-clause-nets_all g c =
    let xs = c.args.rests.now in
    let by = c.args.self.now.by in
    let ok : verdict xs ≡ Ok tt = search rules in
    rw c.net.ensures (netting_nets_all (g.P.Apportion.shares by) (g.met.P.Apportion.whole by) c.args.set xs ok)
