-- The lines that are drawn are those in front, and they add up.
use Rattle.std.proofs.Common.{◌≡◌, ℕ, ◌≤◌, min, List, ◌++◌, length, take, ℤ, ap, sym, ◌∙◌, subst, arith, w32, rules}
use lib.Seq.{take-append-le}
use Rattle.std.proofs.lemmas.List.{take_all}
use Rattle.std.proofs.lemmas.Int.{to_z-of_z}
use Rattle.sharing.specs.Verdict.{most_members}
use Rattle.sheet.specs.Balance.{AddsUp}
use Rattle.sheet.specs.declared.line.SheetLine.{SheetLine}
use Rattle.explanation.proofs.group.draw_sheet.Goals as goal

front : (new room : List SheetLine) (n : ℕ) → length new ≡ n → n ≤ most_members → take (min n most_members) (new ++ room) ≡ new
front new room n long few =
    let all : min n most_members ≡ n = omega arith in
    ap (λ m. take m (new ++ room)) all ∙ take-append-le n new room (omega arith) ∙ take_all n new (omega arith)

pub returns : goal.returns
returns c =
    let new = c.draw.new.lines in
    let n = length c.positions-positions.result.now in
    let long : length new ≡ n = search rules in
    let drawn = front new _ n long c.positions-positions.ensures.few in
    record {
      value = search rules;
      adds_up =
          subst (AddsUp c.args.price) (sym drawn)
          (subst (λ (price : ℤ). AddsUp price new) (to_z-of_z w32 c.args.price c.ranges.price) c.in_ok-draw.ensures.adds_up);
    }
