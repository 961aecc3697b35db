-- Line after line, the text of all.
use Rattle.std.proofs.Common.{pos, sym, refl}
use Rattle.std.proofs.Output.{has_written_append, has_written_of_eq}
use Rattle.explanation.proofs.MemberLines.{lines_more}
use Rattle.explanation.proofs.sheet_text.MemberLinesDisplay.fmt.Goals as goal

pub loop-number-preserved : goal.loop-number-preserved
loop-number-preserved g c = λ plain.
    let took = g.W.Write.write_str_gives in
    let before = c.loop-number.invariant plain in
    let more = lines_more c.args.self.now.0.now c.loop-number.number (record { imbalance_kwh = pos 0; netted_kwh = pos 0; outside_kwh = pos 0; money = pos 0 }) c.loop-number-test.true in
    has_written_of_eq took c.args.f.now _ _ _ (sym more)
    (has_written_append took c.args.f.now _ _ _ _ before (c.in_ok-write.ensures.writes before.plain refl))
