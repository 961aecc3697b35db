-- Nine digits stay below 10 to the ninth.
use Rattle.std.proofs.Common.{◌+◌, ◌*◌, ◌<◌, ◌≤◌, arith, rules}
use Rattle.description.proofs.Digits.{next_power, power_small}
use Rattle.description.proofs.numbers.unsigned.Goals as goal

pub overflow_mul-number : goal.overflow_mul-number
overflow_mul-number c =
    let i = c.loop-byte.byte-index in
    let few : i + 1 ≤ 9 = omega arith in
    let small = next_power c.loop-byte.number 0 i c.loop-byte.invariant.0 (omega arith) in
    let most = power_small (i + 1) few in
    let total : c.loop-byte.number * 10 < 1000000000 = omega arith in
    search rules

pub overflow_add-number : goal.overflow_add-number
overflow_add-number c =
    let i = c.loop-byte.byte-index in
    let few : i + 1 ≤ 9 = omega arith in
    let digit : c.from.result < 10 = omega (arith, c.if-not-is_ascii_digit.ensures.cases) in
    let small = next_power c.loop-byte.number c.from.result i c.loop-byte.invariant.0 digit in
    let most = power_small (i + 1) few in
    let total : c.loop-byte.number * 10 + c.from.result < 1000000000 = omega arith in
    search rules
