-- `hydrograph::fill_weights` meets its contract. Assumes nothing.
use Rattle.hydrograph.proofs.Hands.{Filling}
use Rattle.hydrograph.proofs.fill_weights.Given as goal

abbrev pub invariant-loop-i : goal.invariant-loop-i
invariant-loop-i l = Filling l.peak l.step l.done l.list l.pen l.i
