-- `host::gathering::put_patches` meets its contract. The invariant: the numbers of the first k patches are stored. Assumes nothing.
use mathlib.Core.Path.{◌≡◌}
use lib.Seq.{sets}
use Rattle.host.specs.Flattened.{patches_to}
use Rattle.host.proofs.gathering.put_patches.Given as goal

abbrev pub invariant-loop-k : goal.invariant-loop-k
invariant-loop-k l = l.to ≡ sets l.initial.to l.at (patches_to l.k l.own)
