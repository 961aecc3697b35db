-- A posting that a layer lets through is answered as by the book below, and does the same.
use Rattle.std.proofs.Common.{◌≡◌, ℕ, false, List, arith}
use Rattle.std.proofs.lemmas.Bool.Decides.{nat_tests}
use Rattle.energy.specs.Meaning.{Meaning, book_verdict, book_outcome}
use Rattle.energy.specs.Layers.{under_ceilings, over_own, under_seals, sealed_own}

module _ (own : List ℕ) (m : Meaning) (line period kwh : ℕ) (free : over_own own m line period kwh ≡ false) where
  pub ceilings_verdict : book_verdict m line period kwh ≡ book_verdict (under_ceilings own m) line period kwh
  ceilings_verdict = grind (arith, nat_tests)

  pub ceilings_outcome : under_ceilings own (book_outcome m line period kwh) ≡ book_outcome (under_ceilings own m) line period kwh
  ceilings_outcome = let same = ceilings_verdict in grind (arith, nat_tests)

module _ (days : ℕ) (m : Meaning) (line period kwh : ℕ) (free : sealed_own days m line period ≡ false) where
  pub seals_verdict : book_verdict m line period kwh ≡ book_verdict (under_seals days m) line period kwh
  seals_verdict = grind (arith, nat_tests)

  pub seals_outcome : under_seals days (book_outcome m line period kwh) ≡ book_outcome (under_seals days m) line period kwh
  seals_outcome = let same = seals_verdict in grind (arith, nat_tests)
