-- The entry that is found has its content replaced.
use Rattle.keyed.proofs.Entering.{put_replaced}
use Rattle.keyed.proofs.list.KeyedList.put.Goals as goal

pub returns-in-Some-clause-after : goal.returns-in-Some-clause-after
returns-in-Some-clause-after g c =
    let list = c.args.self.now in
    put_replaced g.K.Key.same g.met.K.Key.exact g.K.Key.spread list.memory.now list.used c.index-self-place.result list.filled c.args.key c.args.content
    c.in-Some.place c.in-Some.ensures.is
