-- `hydrograph::line_from` meets its contract: no line past the one looked for is reached. Assumes nothing.
use Prim.Native.Nat.{◌-◌, ◌≤◌}
use Rattle.hydrograph.specs.InflowRows.{line_at}
use Rattle.hydrograph.proofs.line_from.Given as goal

abbrev pub invariant-loop-i : goal.invariant-loop-i
invariant-loop-i l = l.i ≤ line_at l.peak l.t

abbrev pub decreases-loop-i : goal.decreases-loop-i
decreases-loop-i l = line_at l.peak l.t - l.i
