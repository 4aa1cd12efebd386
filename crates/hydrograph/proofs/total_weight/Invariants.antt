-- `hydrograph::total_weight` meets its contract. Assumes nothing.
use Prim.Native.Nat.{◌+◌, ◌-◌}
use Rattle.hydrograph.proofs.Hands.{Totalling}
use Rattle.hydrograph.proofs.total_weight.Given as goal

abbrev pub invariant-loop-done : goal.invariant-loop-done
invariant-loop-done l = Totalling l.peak l.step l.list l.line l.total l.done

abbrev pub decreases-loop-done : goal.decreases-loop-done
decreases-loop-done l = l.count + 8 - l.done
