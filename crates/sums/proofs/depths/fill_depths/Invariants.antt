-- `sums::depths::fill_depths` meets its contract. Assumes nothing.
use lib.ListN.{length}
use Rattle.sums.proofs.Deepening.{Deepening}
use Rattle.sums.proofs.depths.fill_depths.Given as goal

abbrev pub invariant-loop-i : goal.invariant-loop-i
invariant-loop-i l = Deepening l.tenths l.rain l.first l.back (length l.initial.list) l.list l.last l.i
