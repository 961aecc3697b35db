-- Written and then linked.
use Rattle.std.proofs.Common.{ℕ, get_or, set, unwrap_or, ap, ◌∙◌}
use Rattle.keyed.specs.declared.entry.Entry.{Entry}
use Rattle.keyed.proofs.Entering.{appended}
use Rattle.keyed.proofs.list.KeyedList.append.Goals as goal

pub returns-clause-after : goal.returns-clause-after
returns-clause-after g c =
    let list = c.args.self.now in
    let es = list.memory.now in
    let d = c.index-self-used.result in
    let start = c.start_of-start.result in
    let older = c.unwrap_or-older.ensures ∙ ap (λ o. unwrap_or o list.used) c.newest_from.ensures in
    let new : ℕ → Entry g.row.K.Denot g.row.V.Denot =
    λ o. record { key = c.args.key; content = c.args.content; start = start; older = o; newest = (get_or es list.used d).newest } in
    appended g.K.Key.same g.met.K.Key.exact g.K.Key.spread es list.used d list.filled c.args.key c.args.content
    c.requires.room start c.start_of-start.ensures.is c.start_of-start.ensures.within c.requires.absent
    (set es list.used (new c.unwrap_or-older.result)) _ (ap (λ o. set es list.used (new o)) older) d (c.write.ensures d)
