-- `pond::lower` meets its contract: the range that is halved holds the scan's answer. Assumes nothing.
use native.Mathlib.Omega.{arith}
use borrow.Author.Tests.{lt-ltb, le-ltb}
use Rattle.pond.specs.PondRows.{lower}
use Rattle.pond.proofs.Halves.{halve_start, halve_up, halve_down, halve_end}
use Rattle.pond.proofs.Sums.{lower_stays}
use Rattle.pond.proofs.Pond.lower.Goals as goal

pub loop-low-init : goal.loop-low-init
loop-low-init c = rw c.rows-high.ensures (halve_start _ _)

pub sum_at-requires : goal.sum_at-requires
sum_at-requires c = omega arith

pub loop-low-preserved-then-sum_at-x : goal.loop-low-preserved-then-sum_at-x
loop-low-preserved-then-sum_at-x c =
    halve_up _ _ (lower_stays c.args.self.now.sound _) c.loop-low.invariant (rw c.sum_at.ensures at (lt-ltb _ _ c.if-sum_at-x.true)) (omega arith)

pub loop-low-preserved : goal.loop-low-preserved
loop-low-preserved c = halve_down _ _ c.loop-low.invariant (rw c.sum_at.ensures at (le-ltb _ _ c.if-sum_at-x.false)) (omega arith)

pub returns : goal.returns
unfolding lower
returns c = halve_end _ _ c.loop-low.invariant (omega arith)
