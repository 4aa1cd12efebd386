-- `hydrograph::line_at` meets its contract. Assumes nothing.
use Prim.Native.Nat.{◌+◌, ◌*◌}
use lib.Dec.{ltb}
use Rattle.laws.proofs.Scans.{Scanning}
use Rattle.hydrograph.specs.InflowRows.{time}
use Rattle.hydrograph.proofs.line_at.Given as goal

abbrev pub invariant-loop-i : goal.invariant-loop-i
invariant-loop-i l = Scanning (λ k. ltb (time (k + 1) * l.peak) l.t) 32 l.i
