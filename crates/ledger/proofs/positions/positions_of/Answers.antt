-- Each turn lists one position more; the first member who lacks an energy ends the loop with his name.
use Rattle.std.proofs.Common.{◌∷◌, [], ◌++◌, sym, ◌∙◌, arith}
use Rattle.std.proofs.lemmas.List.FromFn.{map-range_with_len_more}
use Rattle.std.proofs.lemmas.Result.{err_from_is_err_and}
use Rattle.ledger.specs.Energies.{known, position_of}
use Rattle.ledger.proofs.Known.{then_sure, then_refused, known_more, known_stop}
use Rattle.ledger.proofs.positions.positions_of.Goals as goal

pub returns-in_err-position_of-clause-answer : goal.returns-in_err-position_of-clause-answer
returns-in_err-position_of-clause-answer g c =
    let E = (g.B.Book.meaning c.args.book.now).cell in
    let o = c.args.opening.now in
    let p = c.args.period in
    let i = c.loop-member.member in
    let missing = then_refused (known E p i) (position_of o E p i) _ c.in_err-position_of.ensures in
    let exit = err_from_is_err_and c.from_residual.result c.from_residual.ensures.1 in
    rw (exit.1, exit.2) (sym (known_stop E p o.members i _ c.loop-member-test.true c.loop-member.invariant.1 missing))

pub loop-member-preserved : goal.loop-member-preserved
loop-member-preserved g c =
    let E = (g.B.Book.meaning c.args.book.now).cell in
    let o = c.args.opening.now in
    let p = c.args.period in
    let i = c.loop-member.member in
    let found = then_sure (known E p i) c.in_ok-position_of.field-0 (position_of o E p i) c.in_ok-position_of.ensures in (
      omega (arith, c.push.ensures.len, c.loop-member.invariant.0),
      known_more E p i c.loop-member.invariant.1 found.0,
      c.push.ensures.items ∙ (λ j. c.loop-member.invariant.2 j ++ found.1 j ∷ []) ∙ sym (map-range_with_len_more (position_of o E p) 0 i i (omega arith)),
    )
