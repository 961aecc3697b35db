-- Rounded running sums cover the bill, whatever the accounts hold.
use Rattle.settlement.proofs.Rounded.{fair}
use Rattle.settlement.proofs.bills.invoice.Goals as goal

pub returns-clause-fair : goal.returns-clause-fair
returns-clause-fair c = fair _ _
