-- The limits of a book.
use Rattle.std.specs.Prelude.{ℕ, ◌*◌, ◌≤◌, Bool, ◌&&◌, nat_le}

-- two lines for each of 64 members: his schedule and his reading
abbrev pub most_lines : ℕ
most_lines = 128

-- quarters of an hour
abbrev pub periods_per_day : ℕ
periods_per_day = 96

abbrev pub most_days : ℕ
most_days = 31

abbrev pub most_periods : ℕ
most_periods = most_days * periods_per_day

abbrev pub within_limits : ℕ → ℕ → Bool
within_limits lines periods = (nat_le 1 lines && nat_le lines most_lines) && (nat_le 1 periods && nat_le periods most_periods)

-- the same as facts
pub record WithinLimits (lines periods : ℕ) : Type 0 where
  pub a_line : 1 ≤ lines
  pub few_lines : lines ≤ most_lines
  pub a_period : 1 ≤ periods
  pub few_periods : periods ≤ most_periods
