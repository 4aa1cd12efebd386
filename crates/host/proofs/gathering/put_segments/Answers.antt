-- `host::gathering::put_segments` meets its contract. The invariant: the numbers of the first k segments are stored. Assumes nothing.
use mathlib.Core.Path.{refl}
use Rattle.host.specs.Flattened.{segments_to}
use Rattle.host.proofs.Stores.{segments_step}
use Rattle.host.proofs.gathering.put_segments.Goals as goal

pub loop-k-init : goal.loop-k-init
unfolding segments_to
loop-k-init c = refl

pub loop-k-preserved : goal.loop-k-preserved
loop-k-preserved c = segments_step _ _ _ _ _ c.args.own c.loop-k.invariant c.put_segment.ensures
