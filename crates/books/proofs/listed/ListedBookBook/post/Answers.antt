-- What the list answers is what the book answers.
use Rattle.std.proofs.Common.{not, length, sym, ap, ◌∙◌, ap₂}
use Rattle.keyed.specs.Contents.{put_verdict, put_outcome}
use Rattle.keyed.specs.Lists.{contents}
use Rattle.books.specs.Plain.{sized, plain_check}
use Rattle.books.specs.Cells.{same_cell, cell_spread}
use Rattle.books.specs.Listed.{listed}
use Rattle.books.proofs.Listings.{listed_posted}
use Rattle.books.proofs.listed.ListedBookBook.post.Goals as goal

pub returns : goal.returns
returns c =
    let b = c.args.self.now in
    let held = contents same_cell cell_spread b.cells in
    let checked = ap₂ (λ l q. plain_check l q c.args.line c.args.period c.args.kwh) (sym c.size.ensures.lines) (sym c.size.ensures.periods) ∙ sym c.in_ok-check_posting.ensures in
    let posted = listed_posted (length b.cells.memory.now) held c.args.line c.args.period c.args.kwh b.size b.fits (c.is_none.ensures ∙ ap not c.if-is_none.false) checked in
    record {
      answer = c.put.ensures.answer ∙ ap₂ (λ k full. put_verdict same_cell held k full) c.at.ensures c.at_cell-full.ensures ∙ posted.0;
      after = ap₂ (λ memory h. sized (λ lines periods. listed lines periods memory h) b.size) c.put.ensures.size (c.put.ensures.after ∙ ap (λ k. put_outcome same_cell held k c.args.kwh) c.at.ensures) ∙ posted.1;
      refused = c.put.ensures.refused;
      lent = c.put.ensures.lent;
    }
