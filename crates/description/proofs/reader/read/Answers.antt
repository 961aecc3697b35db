-- Each part is entered with its number, and its fault, if any, ends the reading.
use Rattle.std.proofs.Common.{◌≡◌, ◌∙◌, ◌+◌, List, ℕ, Ok, Err, length, sym, ap, arith, rules, tests}
use Rattle.std.specs.List.{slice_split}
use Rattle.std.proofs.lemmas.List.{length_push, at_drop_all}
use Rattle.std.proofs.lemmas.Result.{err_from_is_err_and}
use Rattle.description.specs.Words.{ends_line, lines_of}
use Rattle.description.specs.Entries.{left}
use Rattle.description.specs.Figures.{nothing_known, quarter_after, quarter_described}
use Rattle.description.proofs.Lines.{parts_describe, part_turn, parts_end, entered}
use Rattle.description.proofs.reader.read.Goals as goal

pub loop-index-init : goal.loop-index-init
loop-index-init c =
    let empty : c.default-draft.result ≡ nothing_known = search rules in
    parts_describe c.args.text.now 1 c.default-draft.result ∙ ap (λ draft. quarter_after 1 draft (lines_of c.args.text.now)) empty

pub returns-in_err-enter_line : goal.returns-in_err-enter_line
returns-in_err-enter_line c =
    let text : List ℕ = c.args.text.now in
    let turn = part_turn _ text _ c.loop-index.yielded _ c.loop-index.yielded_by _ _ (c.in-Some.index, c.in-Some.line) c.in-Some.is c.next.ensures.steps c.enumerate-index-items.result c.split.result _ (c.into_iter-index-iterator.ensures.into_iter_gives, c.enumerate-index-items.ensures.source, c.enumerate-index-items.ensures.count, c.split.ensures.rest, c.split.ensures.done, c.split.ensures.closure, λ x b q k. search (rules, tests)) in
    let p = err_from_is_err_and c.from_residual.result c.from_residual.ensures.1 in
    rw (p.1, p.2)
    (entered (slice_split ends_line text) (length c.loop-index.yielded) c.loop-index.draft c.in-Some.index c.in-Some.line.now turn (Err c.in_err-enter_line.field-0.0) (quarter_described text) (ap (λ r. left r c.enter_line.new.self) (sym c.in_err-enter_line.was) ∙ c.enter_line.ensures) c.loop-index.invariant)

pub loop-index-preserved : goal.loop-index-preserved
loop-index-preserved c =
    let text : List ℕ = c.args.text.now in
    let turn = part_turn _ text _ c.loop-index.yielded _ c.loop-index.yielded_by _ _ (c.in-Some.index, c.in-Some.line) c.in-Some.is c.next.ensures.steps c.enumerate-index-items.result c.split.result _ (c.into_iter-index-iterator.ensures.into_iter_gives, c.enumerate-index-items.ensures.source, c.enumerate-index-items.ensures.count, c.split.ensures.rest, c.split.ensures.done, c.split.ensures.closure, λ x b q k. search (rules, tests)) in
    simp length_push
    (entered (slice_split ends_line text) (length c.loop-index.yielded) c.loop-index.draft c.in-Some.index c.in-Some.line.now turn (Ok c.enter_line.new.self) (quarter_described text) (ap (λ r. left r c.enter_line.new.self) (sym c.in_ok-enter_line.was) ∙ c.enter_line.ensures) c.loop-index.invariant)

pub returns : goal.returns
returns c =
    let text : List ℕ = c.args.text.now in
    let n = length c.loop-index.yielded in
    let all = parts_end _ text _ c.loop-index.yielded _ c.loop-index.yielded_by _ _ c.in-None.is c.next.ensures.steps c.enumerate-index-items.result c.split.result _ (c.into_iter-index-iterator.ensures.into_iter_gives, c.enumerate-index-items.ensures.source, c.enumerate-index-items.ensures.count, c.split.ensures.rest, c.split.ensures.done, c.split.ensures.closure, λ x b q k. search (rules, tests)) in
    c.quarter.ensures ∙ sym (at_drop_all (quarter_after (n + 1) c.loop-index.draft) (slice_split ends_line text) n (omega arith)) ∙ c.loop-index.invariant
