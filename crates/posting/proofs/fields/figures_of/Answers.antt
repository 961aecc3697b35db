-- Each part stands at its place, and the bids are those that the flags allow.
use Rattle.std.proofs.Common.{None, Some, refl, arith, rules}
use Rattle.posting.specs.Bytes.{two_at, signed_at}
use Rattle.posting.proofs.Figures.{none_short, second_long, third_long, figures_told}
use Rattle.posting.proofs.fields.figures_of.Goals as goal

pub returns-in_err-upward : goal.returns-in_err-upward
returns-in_err-upward c =
    let fields = c.args.fields.now in
    rw c.from_residual-in_err-upward.ensures (none_short fields (λ e. omega (arith, second_long fields _ _ c.in-len6-up.len_at_least c.in_ok-downward.ensures, c.in_err-upward.ensures)))

pub returns-in_default-rest : goal.returns-in_default-rest
returns-in_default-rest c =
    let fields = c.args.fields.now in
    none_short fields (λ e. omega (arith, third_long fields _ _ c.in-len6-up.len_at_least c.in_ok-downward.ensures _ _ c.in_ok-upward.ensures))

pub returns-in_default-rest-2 : goal.returns-in_default-rest-2
returns-in_default-rest-2 c =
    let fields = c.args.fields.now in
    none_short fields (λ e. omega (arith, third_long fields _ _ c.in-len6-up.len_at_least c.in_ok-downward.ensures _ _ c.in_ok-upward.ensures))

pub returns-in_err-downward_bid : goal.returns-in_err-downward_bid
returns-in_err-downward_bid c =
    let fields = c.args.fields.now in
    rw c.from_residual-in_err-downward_bid.ensures
    (figures_told fields _ _ c.in-len6-up.len_at_least c.in_ok-downward.ensures _ _ c.in_ok-upward.ensures (two_at fields 0) (signed_at fields 2) (signed_at c.in_ok-upward.rest.now 9) None (omega arith) refl refl refl (search rules))

pub returns : goal.returns
returns c =
    figures_told c.args.fields.now _ _ c.in-len6-up.len_at_least c.in_ok-downward.ensures _ _ c.in_ok-upward.ensures _ _ _ (Some (c.in_ok-downward_bid.downward_bid, c.in_ok-downward_bid.upward_bid)) (omega arith) (search rules) (search rules) (search rules) (search rules)
