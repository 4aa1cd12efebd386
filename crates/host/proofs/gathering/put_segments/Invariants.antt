-- `host::gathering::put_segments` meets its contract. The invariant: the numbers of the first k segments are stored. Assumes nothing.
use mathlib.Core.Path.{◌≡◌}
use lib.Seq.{sets}
use Rattle.host.specs.Flattened.{segments_to}
use Rattle.host.proofs.gathering.put_segments.Given as goal

abbrev pub invariant-loop-k : goal.invariant-loop-k
invariant-loop-k l = l.to ≡ sets l.initial.to l.at (segments_to l.k l.own)
