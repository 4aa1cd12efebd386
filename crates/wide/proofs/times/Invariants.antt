-- `wide::times` meets its contract: the limbs written so far with those still due are all of the product's. Assumes nothing.
use Rattle.wide.proofs.Limbs.{Scaling}
use Rattle.wide.proofs.times.Given as goal

abbrev pub invariant-loop-limb : goal.invariant-loop-limb
invariant-loop-limb l = Scaling l.factor l.initial.limb-items l.limb-items l.carry l.limb-index
