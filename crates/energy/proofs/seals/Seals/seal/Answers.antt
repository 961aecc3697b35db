-- One bit more is set.
use Rattle.std.proofs.Common.{◌≡◌, ◌*◌, ◌%◌, ◌^◌, ◌<◌, ap, ◌∙◌, arith}
use lib.Bits.{bit_or}
use Rattle.std.proofs.lemmas.Nat.{one_shl}
use Rattle.std.proofs.lemmas.Bool.Decides.{nat_tests}
use Rattle.energy.specs.Layers.{day_in, with_day}
use Rattle.energy.proofs.Days.{day_added}
use Rattle.energy.proofs.seals.Seals.seal.Goals as goal

pub returns-clause-sealed : goal.returns-clause-sealed
returns-clause-sealed g c = λ d.
    let days = c.args.self.now.days in
    let day = c.args.day in
    let bit : 1 * 2 ^ day % 2 ^ 32 ≡ 2 ^ day = one_shl day 32 (omega arith) in
    let added : day_in (bit_or days (1 * 2 ^ day % 2 ^ 32)) d ≡ with_day days day d = ap (λ n. day_in (bit_or days n) d) bit ∙ day_added days day d in
    let early : day < 31 = omega arith in
    grind (arith, nat_tests)
