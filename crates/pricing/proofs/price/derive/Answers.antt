-- What the range check tells is what the stages need, and the stages make up the derivation.
use Rattle.std.proofs.Common.{◌≡◌, nat_abs, IfOk, Ok, Result, sym, ap, ◌∙◌, subst, arith, w32, SFits, rules}
use Rattle.refusal.specs.declared.reason.Reason.{Reason}
use Rattle.std.proofs.lemmas.Int.{ints, to_z-of_z}
use Rattle.pricing.specs.declared.derivation.Base.{Base}
use Rattle.pricing.specs.Prices.{decided}
use Rattle.pricing.specs.Stages.{activations_on, bid_on, base_of, candidates_of}
use Rattle.pricing.proofs.Bounds.{BaseBounded}
use Rattle.pricing.proofs.Lawfulness.{InRange, in_range, base_of_range, derived}
use Rattle.pricing.proofs.price.derive.Goals as goal
use Rattle.pricing.proofs.price.derive.Goals.{After-bid_on, In_ok-base}

range : (c : After-bid_on) → InRange c.args.figures.now
range c = in_range c.args.figures.now (sym c.if-not-in_range.ensures)

pub base-requires : goal.base-requires
base-requires c = rw c.activations_on-activations.ensures ((range c).activations c.in-Some.side)

based : (c : In_ok-base) → Ok c.in_ok-base.base ≡ base_of (activations_on c.in-Some.side c.args.figures.now) (bid_on c.in-Some.side c.args.figures.now)
based c = c.in_ok-base.ensures ∙ (λ i. base_of (c.activations_on-activations.ensures i) (c.bid_on.ensures i))

pub invariant_of-off_balance : goal.invariant_of-off_balance
invariant_of-off_balance c =
    let r = range (goal.at.invariant_of-off_balance c).After-bid_on in
    let bounded : BaseBounded c.in_ok-base.base =
    subst (λ (o : Result Base Reason). IfOk o BaseBounded) (sym (based (goal.at.invariant_of-off_balance c).In_ok-base)) (base_of_range c.args.figures.now r c.in-Some.side) in
    record { few = omega (arith, ints, r.imbalance); near = omega (arith, ints, r.index); bounded = bounded }

pub returns : goal.returns
returns c =
    let f = c.args.figures.now in
    let side = c.in-Some.side in
    let base = c.in_ok-base.base in
    let fits : SFits w32 f.index = search rules in
    let size : c.unsigned_abs.result ≡ nat_abs f.imbalance_kwh = omega (arith, ints) in
    let is : c.decided.result ≡ decided side (nat_abs f.imbalance_kwh) (candidates_of side (nat_abs f.imbalance_kwh) f.index base) =
    c.decided.ensures ∙ (λ i. decided side (size i) (candidates_of side (size i) (to_z-of_z w32 f.index fits i) base)) in
    ap Ok is ∙ derived f side base (sym c.if-not-in_range.ensures) c.in-Some.ensures (based (goal.at.returns c).In_ok-base)
