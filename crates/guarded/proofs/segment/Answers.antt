-- `guarded::segment` calls the engine only with a segment that passes its test, as a list of one.
use mathlib.Core.Path.{sym, ◌∙◌}
use native.Mathlib.Omega.{arith}
use Rattle.travel.proofs.Limits.{segments_ok}
use Rattle.guarded.proofs.segment.Goals as goal

pub segment_time-requires : goal.segment_time-requires
segment_time-requires c =
    (segments_ok _ _ (rw c.limit.ensures (omega arith)) (sym c.segments_good.ensures ∙ c.if-not-segments_good.false)).each 0 (omega arith)
