-- `sums::block_sums` meets its contract. Assumes nothing.
use Prim.Native.Nat.{◌-◌}
use lib.ListN.{length}
use Rattle.sums.proofs.Block.{Summing}
use Rattle.sums.proofs.block_sums.Given as goal

abbrev pub invariant-loop-done : goal.invariant-loop-done
invariant-loop-done l = Summing l.step l.rain l.own l.from (length l.initial.sums) l.sums l.q l.line l.done

abbrev pub decreases-loop-done : goal.decreases-loop-done
decreases-loop-done l = l.count - l.done
