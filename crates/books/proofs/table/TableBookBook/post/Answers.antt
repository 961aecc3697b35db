-- The number at the place of the cell is replaced.
use Rattle.std.proofs.Common.{◌<◌, length, set, sym, ap, ◌∙◌, arith}
use Rattle.std.proofs.lemmas.Bool.Decides.{nat_tests}
use Rattle.energy.specs.Meaning.{book_outcome}
use Rattle.books.specs.Plain.{sized, fits_if_any}
use Rattle.books.specs.Table.{table, fits_table}
use Rattle.books.proofs.Postings.{plain_passed}
use Rattle.books.proofs.Tables.{table_posted}
use Rattle.books.proofs.table.TableBookBook.post.Goals as goal

pub returns-clause-after : goal.returns-clause-after
returns-clause-after c =
    let b = c.args.self.now in
    let s = c.in-Some.size in
    let fits = sym (ap (λ o. fits_if_any (λ lines periods. fits_table lines periods (length b.cells.now)) o) c.in-Some.is) ∙ b.fits in
    let passed = plain_passed c.size.result.lines c.size.result.periods c.args.line c.args.period c.args.kwh (sym c.in_ok-check_posting.ensures) in
    let in_lines : c.args.line < s.lines = grind (arith, nat_tests) in
    let in_periods : c.args.period < s.periods = grind (arith, nat_tests) in
    ap (λ o. sized (λ lines periods. table lines periods (set b.cells.now c.place-place.result c.args.kwh)) o) c.in-Some.is
    ∙ ap (λ i. table s.lines s.periods (set b.cells.now i c.args.kwh)) c.place-place.ensures.is
    ∙ table_posted s.lines s.periods b.cells.now c.args.line c.args.period in_lines in_periods fits c.args.kwh passed.small
    ∙ ap (λ o. book_outcome (sized (λ lines periods. table lines periods b.cells.now) o) c.args.line c.args.period c.args.kwh) (sym c.in-Some.is)
