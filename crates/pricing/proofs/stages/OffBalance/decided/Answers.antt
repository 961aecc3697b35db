-- The decisive candidate is bounded.
use Rattle.std.proofs.Common.{sym, subst}
use Rattle.pricing.proofs.Bounds.{CandidateBounded}
use Rattle.pricing.proofs.Choices.{AllBounded, all_bounded, decisive_bounded}
use Rattle.pricing.proofs.stages.OffBalance.decided.Goals as goal

pub whole_price-requires : goal.whole_price-requires
whole_price-requires c =
    let off = c.args.self in
    let bounded : AllBounded c.candidates-candidates.result =
    subst AllBounded (sym c.candidates-candidates.ensures) (all_bounded off.side off.imbalance_kwh off.index off.base off.few off.near off.bounded) in
    subst (λ d. CandidateBounded d.value) (sym c.decisive-decisive.ensures) (decisive_bounded off.side c.candidates-candidates.result bounded)
