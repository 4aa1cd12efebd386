-- `parts::add_volumes` meets its contract. Assumes nothing.
use Rattle.parts.proofs.Volumes.{Between}
use Rattle.parts.proofs.add_volumes.Given as goal

abbrev pub invariant-loop-i : goal.invariant-loop-i
invariant-loop-i l = Between l.own l.sums l.initial.rows l.rows l.sum l.before l.i
