-- The worked examples. A row holds if the definition of its kind gives what the row says.
use Rattle.std.specs.Prelude.{◌≡◌, ℕ, List, [], ◌∷◌, map, length, ℤ, pos, negsuc, None, Ok}
use Rattle.std.specs.List.{range_with_len}
use Rattle.ledger.specs.declared.entries.Account.{Account}
use Rattle.ledger.specs.Invoices.{invoice_of}
use Rattle.pricing.specs.declared.figures.Activation.{Activation}
use Rattle.pricing.specs.declared.figures.Activations.{Activations}
use Rattle.pricing.specs.declared.figures.SystemFigures.{SystemFigures}
use Rattle.pricing.specs.Prices.{price_of}
use Rattle.sharing.specs.InOrder.{in_order}
use Rattle.sharing.specs.Proportional.{proportional}
use Rattle.sharing.specs.Rests.{netted}
use Rattle.sheet.specs.Lines.{everybody}

-- ---- figures

-- this many kWh at this price
infix 20 ◌at◌
abbrev pub ◌at◌ : ℕ → ℤ → Activation
kwh at price = record { kwh = kwh; price = price }

abbrev pub two : Activation → Activation → Activations
two first second = record { automatic = first; manual = second; replacement = 0 at pos 0 }

abbrev pub none : Activations
none = two (0 at pos 0) (0 at pos 0)

-- an imbalance, what was activated downward and upward, and the index; no bids
abbrev pub figures : ℤ → Activations → Activations → ℤ → SystemFigures
figures imbalance downward upward index = record {
  imbalance_kwh = imbalance;
  downward = downward;
  upward = upward;
  downward_bid = None;
  upward_bid = None;
  index = index;
}

-- the same system at several imbalances
abbrev pub with_imbalance : ℤ → SystemFigures
with_imbalance imbalance = figures imbalance (two (60000 at pos 4000) (20000 at negsuc 1999)) none (pos 9000)

-- ---- rests

abbrev pub four_rests : List ℤ
four_rests = pos 4000 ∷ negsuc 1999 ∷ negsuc 999 ∷ pos 3000 ∷ []

-- ---- accounts, of which only the money matters here, in thousandths of a stotinka

abbrev pub with_money : ℤ → Account
with_money money = record { inside_kwh = pos 0; outside_kwh = pos 0; money = money }

-- ---- the table; `negsuc 1999` is minus 2,000

pub data Row : Type 0 where
  priced : SystemFigures → ℤ → Row
  -- what a rule nets of these rests, where everybody is in the set
  nets : (ℕ → List ℤ → List ℤ) → List ℤ → List ℤ → Row
  -- the invoices of members with this money, in stotinki
  invoices : List ℤ → List ℤ → Row

abbrev pub Holds : Row → Type 0
Holds (priced f price) = price_of f ≡ Ok price
Holds (nets rule rests energies) = netted rests (rule everybody rests) ≡ energies
Holds (invoices money stotinki) = map (invoice_of (map with_money money)) (range_with_len 0 (length money)) ≡ stotinki

abbrev pub HoldsThroughout : List Row → Type 0
HoldsThroughout [] = Unit {0}
HoldsThroughout (row ∷ rows) = Holds row × HoldsThroughout rows

abbrev pub table : List Row
table =
    -- the base of 2,500, scaled by 8/5, decides
    priced (with_imbalance (pos 80000)) (negsuc 3999)
    -- at 50,000 kWh it is not yet scaled
    ∷ priced (with_imbalance (pos 50000)) (pos 2500)
    ∷ priced (with_imbalance (pos 50001)) (negsuc 2499)
    -- in balance the index is the price
    ∷ priced (with_imbalance (pos 0)) (pos 9000)
    -- a shortage
    ∷ priced (figures (negsuc 59999) none (two (30000 at pos 20000) (10000 at pos 23334)) (negsuc 1999)) (pos 25000)
    -- a half is rounded away from zero
    ∷ priced (figures (pos 1) (two (1 at negsuc 2) (1 at negsuc 3)) none (pos 3000)) (negsuc 3)
    -- the shortage of 3,000 is netted whole, and of the surplus as much
    ∷ nets proportional four_rests (pos 1714 ∷ negsuc 1999 ∷ negsuc 999 ∷ pos 1286 ∷ [])
    ∷ nets in_order four_rests (pos 3000 ∷ negsuc 1999 ∷ negsuc 999 ∷ pos 0 ∷ [])
    -- half a stotinka, and minus one: together minus a half, which is minus one, so the second invoice makes up for the first
    ∷ invoices (pos 500 ∷ negsuc 999 ∷ []) (pos 1 ∷ negsuc 1 ∷ [])
    ∷ []
