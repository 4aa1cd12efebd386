-- `host::gathering::put_segment` meets its contract: the five stores are `sets`. Assumes nothing.
use native.Mathlib.Numerals.{add-one}
use Rattle.host.proofs.gathering.put_segment.Goals as goal

pub returns : goal.returns
returns c = simp add-one
