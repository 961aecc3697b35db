-- Invoices cover the bill.
use Rattle.std.specs.Prelude.{◌≡◌, ℕ, ◌≤◌, List, pos, ◌-ℤ◌, ◌*ℤ◌, unsigned_abs}
use Rattle.ledger.specs.declared.entries.Account.{Account}
use Rattle.ledger.specs.Invoices.{sum_below, in_stotinki, money_of, running, invoice_of}

-- the invoices of the first n members sum to their money together, rounded once; and each differs from its account by at most
-- one stotinka, which is a thousand of what accounts count
pub record Fair (n : ℕ) (accounts : List Account) : Type 0 where
  pub covers : sum_below n (invoice_of accounts) ≡ in_stotinki (running accounts n)
  pub near : (i : ℕ) → unsigned_abs (pos 1000 *ℤ invoice_of accounts i -ℤ money_of accounts i) ≤ 1000
