-- What a posting does to a book, from the answer to it.
use Rattle.std.proofs.Common.{◌≡◌, ℕ, ◌-◌, ◌<◌, ◌≤◌, true, false, cond, not, ◌&&◌, eqb, ltb, leb, is_some, is_ok, Ok, Err, Option, ap, ◌∙◌, arith}
use Rattle.std.proofs.lemmas.Bool.{cond-true, cond-false, lt-leb, le-ltb}
use Rattle.std.proofs.lemmas.Bool.Decides.{nat_tests}
use Rattle.charging.specs.Limits.{energy_limit}
use Rattle.refusal.specs.declared.layer.Layer.TheVariants.{Book}
use Rattle.refusal.specs.declared.reason.Reason.TheVariants.{Full}
use Rattle.refusal.specs.declared.refused.Refusal.{Refusal}
use Rattle.refusal.specs.Numbers.{at_cell}
use Rattle.energy.specs.Meaning.{Meaning, book_verdict, book_outcome, posted, with_cell}
use Rattle.books.specs.Plain.{plain, plain_check}

module _ (m : Meaning) (line period kwh : ℕ) where
  pub after_accepted : book_verdict m line period kwh ≡ Ok tt → book_outcome m line period kwh ≡ posted m line period kwh
  after_accepted e = cond-true (is_ok (book_verdict m line period kwh)) (posted m line period kwh) m (ap is_ok e)

  pub after_refused : (why : Refusal) → book_verdict m line period kwh ≡ Err why → book_outcome m line period kwh ≡ m
  after_refused why e = cond-false (is_ok (book_verdict m line period kwh)) (posted m line period kwh) m (ap is_ok e)

-- what passes
pub record Postable (lines periods line period kwh : ℕ) : Type 0 where
  pub in_lines : line < lines
  pub in_periods : period < periods
  pub small : kwh ≤ energy_limit

pub plain_passed : (lines periods line period kwh : ℕ) → plain_check lines periods line period kwh ≡ Ok tt → Postable lines periods line period kwh
plain_passed lines periods line period kwh e = record { in_lines = grind (arith, nat_tests); in_periods = grind (arith, nat_tests); small = grind (arith, nat_tests) }

-- a posting to a cell of a book with no layer over it: only room can be wanting
module _ (lines periods spare : ℕ) (cells : ℕ → ℕ → Option ℕ) (line period kwh : ℕ) (in_lines : line < lines) (in_periods : period < periods) (small : kwh ≤ energy_limit) where
  pub plain_verdict : book_verdict (plain lines periods spare cells) line period kwh
      ≡ cond (not (is_some (cells line period)) && eqb spare 0) (Err (at_cell Full Book line period)) (Ok tt)
  plain_verdict =
      cond-false (leb periods period) _ _ (lt-leb periods period in_periods)
      ∙ cond-false (leb lines line) _ _ (lt-leb lines line in_lines)
      ∙ cond-false (ltb energy_limit kwh) _ _ (le-ltb energy_limit kwh small)

  module _ (room : (not (is_some (cells line period)) && eqb spare 0) ≡ false) where
    pub plain_accepts : book_verdict (plain lines periods spare cells) line period kwh ≡ Ok tt
    plain_accepts = plain_verdict ∙ cond-false _ (Err (at_cell Full Book line period)) (Ok tt) room

    pub plain_posted : book_outcome (plain lines periods spare cells) line period kwh
        ≡ plain lines periods (cond (is_some (cells line period)) spare (spare - 1)) (with_cell cells line period kwh)
    plain_posted = after_accepted (plain lines periods spare cells) line period kwh plain_accepts

  pub plain_full : (not (is_some (cells line period)) && eqb spare 0) ≡ true → book_outcome (plain lines periods spare cells) line period kwh ≡ plain lines periods spare cells
  plain_full none =
      after_refused (plain lines periods spare cells) line period kwh (at_cell Full Book line period)
      (plain_verdict ∙ cond-true _ (Err (at_cell Full Book line period)) (Ok tt) none)
