-- `sums::far_sums` meets its contract. Assumes nothing.
use Prim.Native.Nat.{◌+◌, ◌-◌}
use lib.ListN.{length}
use Rattle.sums.proofs.Far.{Summing}
use Rattle.sums.proofs.far_sums.Given as goal

abbrev pub invariant-loop-done : goal.invariant-loop-done
invariant-loop-done l = Summing l.step l.own l.q l.lead (length l.initial.sums) l.sums l.w l.line l.done

abbrev pub decreases-loop-done : goal.decreases-loop-done
decreases-loop-done l = l.count + 8 - l.done
