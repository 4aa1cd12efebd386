-- `wide::at_most` meets its contract: from limb i on the two are the same. Assumes nothing.
use Rattle.wide.proofs.Limbs.{Alike}
use Rattle.wide.proofs.at_most.Given as goal

abbrev pub invariant-loop-i : goal.invariant-loop-i
invariant-loop-i l = Alike l.a l.b l.i
