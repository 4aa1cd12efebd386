-- `pond::lower` meets its contract: the range that is halved holds the scan's answer. Assumes nothing.
use Prim.Native.Nat.{◌-◌}
use Rattle.pond.specs.PondRows.{rows_in}
use Rattle.pond.proofs.Halves.{Halving}
use Rattle.pond.proofs.Sums.{next_below}
use Rattle.pond.proofs.Pond.lower.Given as goal

abbrev pub invariant-loop-low : goal.invariant-loop-low
invariant-loop-low l = Halving (next_below l.self.half l.self.table.numbers.now l.x) (rows_in l.self.table.numbers.now - 2) l.low l.high

abbrev pub decreases-loop-low : goal.decreases-loop-low
decreases-loop-low l = l.high - l.low
