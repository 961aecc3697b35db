-- What the books here mean, by their fields.
use Rattle.std.specs.Prelude.{length}
use Rattle.keyed.specs.Lists.{contents}
use Rattle.energy.specs.Meaning.{Meaning}
use Rattle.books.specs.declared.listed.ListedBook.{ListedBook}
use Rattle.books.specs.declared.table.TableBook.{TableBook}
use Rattle.books.specs.Plain.{sized}
use Rattle.books.specs.Cells.{same_cell, cell_spread}
use Rattle.books.specs.Listed.{listed}
use Rattle.books.specs.Table.{table}

abbrev pub table_book : TableBook → Meaning
table_book book = sized (λ lines periods. table lines periods book.cells.now) book.size

abbrev pub listed_book : ListedBook → Meaning
listed_book book = sized (λ lines periods. listed lines periods (length book.cells.memory.now) (contents same_cell cell_spread book.cells)) book.size
