-- `host::gathering::put_patches` meets its contract. The invariant: the numbers of the first k patches are stored. Assumes nothing.
use mathlib.Core.Path.{refl}
use Rattle.host.specs.Flattened.{patches_to}
use Rattle.host.proofs.Stores.{patches_step}
use Rattle.host.proofs.gathering.put_patches.Goals as goal

pub loop-k-init : goal.loop-k-init
unfolding patches_to
loop-k-init c = refl

pub loop-k-preserved : goal.loop-k-preserved
loop-k-preserved c = patches_step _ _ _ _ _ c.args.own c.loop-k.invariant c.put_three.ensures
