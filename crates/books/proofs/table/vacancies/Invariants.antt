-- The count so far.
use Rattle.std.proofs.Common.{◌≡◌, ◌≤◌, take, count_by}
use Rattle.books.specs.Table.{vacant}
use Rattle.books.proofs.table.vacancies.Given as goal

abbrev pub invariant-loop-number : goal.invariant-loop-number
invariant-loop-number l = (l.count ≡ count_by vacant (take l.number-index l.cells)) × (l.count ≤ l.number-index)
