-- A record ends within the file, and what is behind it is left.
use Rattle.std.proofs.Common.{◌^◌, ◌<◌, length, sym, ap, arith, rules}
use Rattle.posting.specs.File.{after_next}
use Rattle.posting.proofs.Walking.{next_at, within_at}
use Rattle.posting.proofs.file.Postings.next_record.Goals as goal

pub overflow_add-self : goal.overflow_add-self
overflow_add-self c =
    let file = c.args.self.now.file.now in
    let long : length file < 2 ^ 64 = search rules in
    let within = within_at file c.args.opened c.args.self.now.place c.in-Ok.field-0 (search rules) c.in-Ok.ensures in
    record { fits = omega arith }

pub returns-in-Ok-clause-after : goal.returns-in-Ok-clause-after
returns-in-Ok-clause-after c =
    let e = next_at c.args.self.now.file.now c.args.opened c.args.self.now.place c.in-Ok.field-0 (search rules) c.in-Ok.ensures in
    ap after_next (sym e)
