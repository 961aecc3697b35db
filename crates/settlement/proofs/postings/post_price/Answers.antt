-- A published price is a step of every run, over every book.
use Rattle.std.proofs.Common.{subst, w32}
use Rattle.std.proofs.lemmas.Int.{to_z-of_z}
use Rattle.ledger.specs.Calls.{Prices}
use Rattle.ledger.specs.Judgement.{held_in}
use Rattle.ledger.specs.Marks.{published}
use Rattle.settlement.specs.Runs.{priced}
use Rattle.settlement.specs.Tally.{post_price}
use Rattle.settlement.proofs.Ranges.{goes_on}
use Rattle.settlement.proofs.postings.post_price.Goals as goal

pub returns-clause-goes_on : goal.returns-clause-goes_on
returns-clause-goes_on c =
    let p = c.args.period in
    let v = c.args.price in
    let r = c.enter_price.result in
    let h = subst (λ z. Prices c.args.ledger.now.opening p (published z) r (held_in c.args.ledger.now) (held_in c.enter_price.new.self)) (to_z-of_z w32 v c.ranges.price) c.enter_price.ensures.does in
    λ m lawful rule law. goes_on _ rule law (post_price p v) r lawful (λ t run. priced p v run h)
