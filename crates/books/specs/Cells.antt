-- A cell as a key: which cells are one.
use Rattle.std.specs.Prelude.{ℕ, ◌+◌, ◌*◌, Bool, ◌&&◌, ◌==◌}
use Rattle.std.proofs.Common.{ap}
use Rattle.std.proofs.lemmas.Bool.{eqb-true, eq-eqb, and_parts, and_from}
use Rattle.keyed.specs.Keys.{Exact}
use Rattle.books.specs.declared.cell.Cell.{Cell}
use Rattle.energy.specs.Limits.{most_periods}

abbrev pub same_cell : Cell → Cell → Bool
same_cell one other = one.line == other.line && one.period == other.period

-- cells are one if they agree in line and period
pub cell_exact : Exact same_cell
cell_exact one other = (
  (λ e.
      let both = and_parts (one.line == other.line) (one.period == other.period) e in
      λ i. record { line = eqb-true one.line other.line both.0 i; period = eqb-true one.period other.period both.1 i }),
  (λ e. and_from (one.line == other.line) (one.period == other.period)
      (eq-eqb one.line other.line (ap (λ (c : Cell). c.line) e))
      (eq-eqb one.period other.period (ap (λ (c : Cell). c.period) e))),
)

abbrev pub cell_spread : Cell → ℕ
cell_spread cell = cell.line * most_periods + cell.period
