-- `textbook::lay` meets its contract. Assumes nothing.
use mathlib.Core.Path.{◌≡◌}
use Prim.Native.Nat.{◌≤◌}
use Rattle.laws.specs.Sum.{sum_to}
use Rattle.laws.specs.Listed.{plus}
use Rattle.hydrograph.specs.InflowRows.{weight_at, weights}
use Rattle.textbook.specs.Needs.{laid_to}
use Rattle.textbook.proofs.lay.Given as goal

abbrev pub invariant-loop-j : goal.invariant-loop-j
invariant-loop-j l =
    (l.j ≤ weights l.peak l.step) × ((l.total ≡ sum_to (weight_at l.peak l.step) l.j) × (l.rows ≡ plus (laid_to l.more l.peak l.step l.j) 1 l.initial.rows))
