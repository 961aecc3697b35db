-- Line after line, the text of all.
use Rattle.std.proofs.Common.{◌++◌, refl, ap, ◌∙◌, append_assoc}
use Rattle.std.proofs.Output.{has_written_append}
use Rattle.posting.specs.File.{contents_left}
use Rattle.posting.specs.Text.{contents_text, line_text}
use Rattle.posting.proofs.Lines.{line_more}
use Rattle.posting.proofs.text.ListingDisplay.fmt.Goals as goal

pub loop-step-preserved : goal.loop-step-preserved
loop-step-preserved g c = λ plain.
    let took = g.W.Write.write_str_gives in
    let before = c.loop-step.invariant plain in
    let line = line_text c.in-Some.step in
    let rest = contents_text (contents_left c.next.new.self) in
    let more = line_more (contents_left c.loop-step.step-iterator) (contents_left c.next.new.self) c.in-Some.step c.in-Some.ensures.steps.0 c.in-Some.ensures.steps.1 in (
      before.0 ++ line,
      has_written_append took c.args.f.now before.0 c.loop-step.f line c.write.new.self before.1 (c.in_ok-write.ensures.writes before.1.plain refl),
      append_assoc before.0 line rest ∙ ap (λ text. before.0 ++ text) more ∙ before.2,
    )
