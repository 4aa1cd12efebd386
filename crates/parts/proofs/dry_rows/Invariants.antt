-- `parts::dry_rows` meets its contract. Assumes nothing.
use mathlib.Core.Path.{◌≡◌}
use Rattle.hydrograph.specs.InflowRows.{runoff_at}
use Rattle.parts.proofs.dry_rows.Given as goal

abbrev pub invariant-loop-t : goal.invariant-loop-t
invariant-loop-t l = runoff_at l.tenths l.rain l.t ≡ 0
