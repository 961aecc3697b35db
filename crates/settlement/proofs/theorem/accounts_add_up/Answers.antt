-- The theorem, from the law of the rule and that of the first book.
use Rattle.settlement.proofs.Adding.{accounts_add_up}
use Rattle.settlement.proofs.theorem.accounts_add_up.Goals as goal

pub returns : goal.returns
returns g c =
    let rule = c.args.rule.now in
    let book = c.args.book.now in
    accounts_add_up (g.R.SharingRule.meaning rule) (g.met.R.SharingRule.lawful rule) (g.B.Book.meaning book) (g.C.Book.meaning c.args.other.now) (g.met.B.Book.lawful book)
