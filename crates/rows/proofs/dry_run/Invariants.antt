-- `rows::dry_run` meets its contract. Assumes nothing.
use mathlib.Core.Path.{◌≡◌}
use Rattle.pond.specs.PondRows.{last_sum}
use Rattle.rows.proofs.Turns.{Drying}
use Rattle.rows.proofs.dry_run.Given as goal

abbrev pub invariant-loop-i : goal.invariant-loop-i
invariant-loop-i l = Drying l.level.pond.half l.level.pond.table.numbers.now l.initial.last l.inflow l.last l.tally l.i × (l.top ≡ last_sum l.level.pond.half l.level.pond.table.numbers.now)
