-- A member's imbalance in a quarter of an hour, in kWh: above zero a surplus, below a shortage.
use Rattle.std.specs.Prelude.{ℕ, ℤ, pos, ◌-ℤ◌}
use Rattle.charging.specs.declared.imbalance.Role.{Role}
use Rattle.charging.specs.declared.imbalance.Role.TheVariants.{Producer, Consumer}

-- a producer has a surplus if he delivers more than his schedule says, a consumer if he takes less
abbrev pub imbalance : Role → ℕ → ℕ → ℤ
imbalance Producer schedule reading = pos reading -ℤ pos schedule
imbalance Consumer schedule reading = pos schedule -ℤ pos reading
