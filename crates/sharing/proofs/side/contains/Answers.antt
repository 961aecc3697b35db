-- A set has 64 bits, so nobody above them is in it.
use Rattle.std.proofs.Common.{pow_mono, ◌≡◌, ◌/◌, ◌%◌, ◌^◌, ◌≤◌, false, eqb, ap, arith, rules}
use Rattle.std.proofs.Math.Nat.{div-eq_of_lt}
use Rattle.sharing.specs.Rests.{in_set}
use Rattle.sharing.proofs.side.contains.Goals as goal

pub returns-else-member-lt-MOST_MEMBERS : goal.returns-else-member-lt-MOST_MEMBERS
returns-else-member-lt-MOST_MEMBERS c =
    let many : 2 ^ 64 ≤ 2 ^ c.args.member = pow_mono {i = 64} (omega arith) in
    let none : c.args.set / 2 ^ c.args.member ≡ 0 = div-eq_of_lt (omega (arith, many)) in
    let out : in_set c.args.set c.args.member ≡ false = ap (λ q. eqb (q % 2) 1) none in
    search (rules, out)
