-- Every price is lawful.
use Rattle.std.proofs.Common.{IfOk, sym, ◌∙◌, subst, w32, SFits, rules}
use Rattle.std.proofs.lemmas.Int.{to_z-of_z}
use Rattle.pricing.specs.Laws.{Lawful}
use Rattle.pricing.specs.Prices.{price_in}
use Rattle.pricing.proofs.Lawfulness.{every_price_lawful}
use Rattle.pricing.proofs.price.price_of.Goals as goal

pub returns-clause-lawful : goal.returns-clause-lawful
returns-clause-lawful c =
    let f = c.args.figures.now in
    let price = c.price.result in
    let fits : SFits w32 price = search rules in
    let is = to_z-of_z w32 price fits ∙ c.price.ensures in
    subst (Lawful f) (sym is) (subst (λ r. IfOk r (λ d. Lawful f (price_in d))) (sym c.in_ok-derive.ensures) (every_price_lawful f))
