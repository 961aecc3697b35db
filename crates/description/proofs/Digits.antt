-- How the number that digits write grows by one digit.
use Rattle.std.proofs.Common.{ℕ, ◌+◌, ◌*◌, ◌^◌, ◌<◌, ◌≤◌, pow-suc, add-one, arith}
use native.Mathlib.Nat.{pow-le-pow_right}

-- ten times as much, and one digit, is below the next power of ten
pub next_power : (number digit i : ℕ) → number < 10 ^ i → digit < 10 → number * 10 + digit < 10 ^ (i + 1)
next_power number digit i small d = rw (add-one, pow-suc 10 i) (omega arith)

-- the powers of ten up to the ninth
pub power_small : (i : ℕ) → i ≤ 9 → 10 ^ i ≤ 1000000000
power_small i h = pow-le-pow_right {n = 10} (omega arith) h
