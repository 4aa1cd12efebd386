-- `guarded::bursts::laid`: what is laid is not above the most.
use Rattle.hydrograph.specs.Needs.{Below}
use Rattle.guarded.proofs.bursts.laid.Given as goal

abbrev pub invariant-loop-i : goal.invariant-loop-i
invariant-loop-i l = Below l.list l.i l.most
