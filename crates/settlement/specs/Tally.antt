-- The tally of a run: the last accepted postings, and which periods stand settled. It is fed the calls and whether each was
-- accepted, and nothing of ledger or book.
use Rattle.std.specs.Prelude.{ℕ, Bool, true, false, cond, ℤ, pos, Some, None, Option, ◌==◌}
use Rattle.std.specs.Result.{result_ok}
use Rattle.energy.specs.Meaning.{with_cell}
use Rattle.ledger.specs.Energies.{Energies, schedule_line, reading_line}
use Rattle.ledger.specs.Invoices.{sum_below}
use Rattle.ledger.specs.Judgement.{periods_of}
use Rattle.posting.specs.declared.posting.MemberEnergy.{MemberEnergy}
use Rattle.posting.specs.declared.posting.Opening.{Opening}
use Rattle.pricing.specs.declared.figures.SystemFigures.{SystemFigures}
use Rattle.pricing.specs.Prices.{price_of}

pub record Tally : Type 0 where
  -- the kWh last accepted for a line in a period
  pub energies : Energies
  -- the price last accepted for a period, in stotinki per MWh
  pub prices : ℕ → Option ℤ
  pub settled : ℕ → Bool

-- the calls of an opened run that can change it, and the sheet
pub data Call : Type 0 where
  post_schedule : MemberEnergy → Call
  post_reading : MemberEnergy → Call
  post_price : ℕ → ℤ → Call
  post_figures : ℕ → SystemFigures → Call
  settle : ℕ → Call
  reopen : ℕ → Call
  draw_sheet : ℕ → Call

abbrev pub empty : Tally
empty = record { energies = λ _ _. None; prices = λ _. None; settled = λ _. false }

-- f with another value at p
abbrev pub updated : {X : Type 0} → ℕ → X → (ℕ → X) → ℕ → X
updated p x f q = cond (q == p) x (f q)

abbrev pub with_energy : Tally → ℕ → MemberEnergy → Tally
with_energy t line e = record { energies = with_cell t.energies line e.period e.kwh; prices = t.prices; settled = t.settled }

abbrev pub with_price : Tally → ℕ → Option ℤ → Tally
with_price t p price = record { energies = t.energies; prices = updated p price t.prices; settled = t.settled }

abbrev pub with_settled : Tally → ℕ → Bool → Tally
with_settled t p b = record { energies = t.energies; prices = t.prices; settled = updated p b t.settled }

-- the tally after a call, which was accepted or refused
abbrev pub fed : Tally → Call → Bool → Tally
fed t call false = t
fed t (post_schedule e) true = with_energy t (schedule_line e.member) e
fed t (post_reading e) true = with_energy t (reading_line e.member) e
fed t (post_price p price) true = with_price t p (Some price)
fed t (post_figures p figures) true = with_price t p (result_ok (price_of figures))
fed t (settle p) true = with_settled t p true
fed t (reopen p) true = with_settled t p false
fed t (draw_sheet p) true = t

-- a sum over the settled periods of a run
abbrev pub over_settled : Opening → Tally → (ℕ → ℤ) → ℤ
over_settled o t f = sum_below (periods_of o) (λ p. cond (t.settled p) (f p) (pos 0))
