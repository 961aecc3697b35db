-- How a run of a program ends.
use Rattle.std.specs.Prelude.{ℕ, Ok, Err, Result}

-- the status: 1 where an error is told
abbrev pub status_of : {E : Type 0} → Result (Unit {0}) E → ℕ
status_of (Ok done) = 0
status_of (Err error) = 1
