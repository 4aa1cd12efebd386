-- `hydrograph::line_at` meets its contract. Assumes nothing.
use mathlib.Core.Path.{◌≡◌, ◌∙◌}
use native.Mathlib.Omega.{arith}
use borrow.Author.Tests.{lt-ltb, le-ltb}
use Rattle.laws.proofs.Scans.{scan_go, scan_stop, scan_done}
use Rattle.hydrograph.specs.InflowRows.{line_at}
use Rattle.hydrograph.proofs.line_at.Goals as goal

pub returns-then-t-time_at : goal.returns-then-t-time_at
unfolding line_at
returns-then-t-time_at c =
    scan_stop _ _ c.loop-i.invariant (omega arith) (le-ltb _ _ (rw c.time_at.ensures at c.if-t-time_at.true))

pub loop-i-preserved : goal.loop-i-preserved
loop-i-preserved c =
    scan_go _ _ c.loop-i.invariant (omega arith) (lt-ltb _ _ (rw c.time_at.ensures at c.if-t-time_at.false))

pub returns : goal.returns
unfolding line_at
returns c =
    let all : 32 ≡ c.loop-i.i = omega (arith, c.loop-i.invariant.at) in
    all ∙ scan_done _ _ c.loop-i.invariant (omega arith)
