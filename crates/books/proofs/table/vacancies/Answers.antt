-- One number more is counted if it marks an empty cell.
use Rattle.std.proofs.Common.{cond, count_by, ap, ◌∙◌, arith, take_all}
use Rattle.std.proofs.lemmas.List.Sums.{sum_by_more}
use Rattle.std.proofs.lemmas.Bool.Decides.{nat_tests}
use Rattle.books.specs.Table.{vacant}
use Rattle.books.proofs.table.vacancies.Goals as goal

pub loop-number-preserved : goal.loop-number-preserved
loop-number-preserved c =
    let step = sum_by_more (λ n. cond (vacant n) 1 0) c.args.cells.now c.loop-number.number-index 0 c.loop-number-test.true in
    grind (arith, nat_tests)

pub returns : goal.returns
returns c = c.loop-number.invariant.0 ∙ ap (count_by vacant) (take_all _ _ c.loop-number-test.false)
