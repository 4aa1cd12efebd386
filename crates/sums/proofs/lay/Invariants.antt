-- `sums::lay` meets its contract. Assumes nothing.
use Rattle.laws.proofs.Listed.{Adding}
use Rattle.sums.specs.Needs.{handful}
use Rattle.sums.proofs.lay.Given as goal

abbrev pub invariant-loop-i : goal.invariant-loop-i
invariant-loop-i l = Adding (handful l.w l.q) l.initial.sums l.sums l.i
