-- Rounded running sums: their differences sum up, and each is near what was added.
use Rattle.std.proofs.Common.{◌≡◌, ℕ, zero, suc, ◌≤◌, List, ℤ, pos, ◌+ℤ◌, ◌-ℤ◌, ◌*ℤ◌, nat_abs, refl, ◌∙◌, arith, lit<}
use lib.IntN.{*ℤ_comm}
use Rattle.std.proofs.lemmas.Int.{ints}
use Rattle.ledger.specs.declared.entries.Account.{Account}
use Rattle.ledger.specs.Invoices.{sum_below, in_stotinki, money_of, running}
use Rattle.rounding.specs.Laws.{Close}
use Rattle.rounding.proofs.Distances.{rounding_close}
use Rattle.settlement.specs.Fair.{Fair}

telescopes : (f : ℕ → ℤ) (n : ℕ) → sum_below n (λ i. f (suc i) -ℤ f i) ≡ f n -ℤ f 0
telescopes f zero = omega (arith, ints)
telescopes f (suc n) = omega (arith, ints, telescopes f n)

less_zero : (z : ℤ) → z -ℤ pos 0 ≡ z
less_zero z = omega (arith, ints)

-- two sums, a member's money apart, each rounded by at most half
near_difference : (before after money a b : ℤ) → after ≡ before +ℤ money → Close before 1000 a → Close after 1000 b → nat_abs (pos 1000 *ℤ (b -ℤ a) -ℤ money) ≤ 1000
near_difference before after money a b e u v =
    let p = u.not_above in
    let q = u.not_below in
    let s = v.not_above in
    let w = v.not_below in
    omega (arith, ints, *ℤ_comm a (pos 1000), *ℤ_comm b (pos 1000), *ℤ_comm (b -ℤ a) (pos 1000))

pub fair : (n : ℕ) (accounts : List Account) → Fair n accounts
fair n accounts =
    record {
      covers = telescopes (λ i. in_stotinki (running accounts i)) n ∙ less_zero _;
      near = λ i. near_difference (running accounts i) (running accounts (suc i)) (money_of accounts i) _ _ refl (rounding_close (running accounts i) 1000 (lit< tt)) (rounding_close (running accounts (suc i)) 1000 (lit< tt));
    }
