-- `roots::search::largest` meets its contract: the low end of the range that is narrowed passes or is 0, and the high end does not or is the first one. Assumes nothing.
use Prim.Native.Nat.{◌-◌}
use Rattle.roots.proofs.Bisect.{Narrowed}
use Rattle.roots.proofs.search.largest.Given as goal

abbrev pub invariant-loop-low : goal.invariant-loop-low
invariant-loop-low g l = Narrowed (g.T.Test.tells l.test) l.past l.low l.high

abbrev pub decreases-loop-low : goal.decreases-loop-low
decreases-loop-low g l = l.high - l.low
