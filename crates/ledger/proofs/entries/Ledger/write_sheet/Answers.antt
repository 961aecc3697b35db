-- The sheet that is drawn at the period's price is written.
use Rattle.std.proofs.Common.{◌≡◌, ◌<◌, ◌≤◌, length, get_or, Some, Ok, sym, ap, ◌∙◌, arith, w32, to_z, of_z, rules}
use Rattle.arrayvec.proofs.ArrayVecLemmas.{items-with_items}
use Rattle.sheet.specs.Lines.{sheet_of}
use Rattle.refusal.specs.Numbers.{of_period}
use Rattle.ledger.specs.declared.entries.Mark.TheVariants.{Unpriced}
use Rattle.ledger.specs.Calls.{draw_verdict, lists}
use Rattle.ledger.specs.Energies.{all_known, positions_of}
use Rattle.ledger.specs.Judgement.{held_in, judged_with_book, periods_of}
use Rattle.ledger.specs.Marks.{price_at}
use Rattle.ledger.proofs.Columns.{drawn_sheet}
use Rattle.ledger.proofs.Judging.{judged_with_book_facts}
use Rattle.ledger.proofs.Turned.{does_then}
use Rattle.ledger.proofs.entries.Ledger.write_sheet.Goals as goal

pub returns : goal.returns
returns g c =
    let same = c.in_ok-judged.ensures.same in
    let who = of_period c.args.period in
    let o = c.args.self.now.opening in
    let L = held_in c.args.self.now in
    let m = g.B.Book.meaning c.args.book.now in
    let rule = g.R.SharingRule.meaning c.args.rule.now in
    let out = lists c.args.inside_kwh.now c.args.outside_kwh.now in
    let passed : judged_with_book who o L m ≡ Ok tt = search rules in
    let facts = judged_with_book_facts who o L m passed in
    let there : c.args.period < periods_of o = omega (arith, c.from-index.ensures, facts.a_mark_each, ap length same.marks) in
    let members : c.from-members.result ≡ o.members = c.from-members.ensures ∙ ap (λ z. z.members) same.opening in
    let inside : o.members ≤ length c.args.inside_kwh.now = omega (arith, members) in
    let outside : o.members ≤ length c.args.outside_kwh.now = omega (arith, members) in
    let price : Some c.in-Some.price ≡ price_at (get_or L.marks c.args.period Unpriced) =
    c.in-Some.ensures ∙ (λ i. price_at (get_or (same.marks i) (c.from-index.ensures i) Unpriced)) in
    let written : c.as_slice.result.now ≡ c.draw_period.new.lines =
    c.as_slice.ensures.value ∙ items-with_items c.blank_lines-lines.result _ (omega (arith, ap length c.as_mut_slice.ensures.value)) in
    let lines : c.as_slice.result.now ≡ sheet_of rule o.internal_price (to_z w32 (of_z w32 c.in-Some.price)) (positions_of o m.cell c.args.period) =
    written ∙ c.in_ok-draw_period.ensures.after ∙ (λ i. sheet_of rule (same.opening i).internal_price (to_z w32 (of_z w32 c.in-Some.price)) (positions_of (same.opening i) m.cell c.args.period)) in
    let all : all_known o.members m.cell c.args.period ≡ Ok tt = sym (c.in_ok-draw_period.ensures.answer ∙ (λ i. all_known (same.opening i).members m.cell c.args.period)) in
    does_then (judged_with_book who o L m) (draw_verdict o L m.cell c.args.period out) _ _ _ passed
    (drawn_sheet o m.cell c.args.period L out facts.few_members (g.met.B.Book.lawful c.args.book.now).small_cells
    rule (g.met.R.SharingRule.lawful c.args.rule.now) c.in-Some.price _ c.as_slice.result.now c.write_columns.new.inside_kwh c.write_columns.new.outside_kwh
    lines there price all inside outside c.write_columns.ensures.inside c.write_columns.ensures.outside)
