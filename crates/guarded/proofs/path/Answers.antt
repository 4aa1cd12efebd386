-- `guarded::path` calls the engine only with segments that pass its test.
use mathlib.Core.Path.{sym, ◌∙◌}
use native.Mathlib.Omega.{arith}
use Rattle.travel.proofs.Limits.{segments_ok}
use Rattle.guarded.proofs.path.Goals as goal

pub concentration-tc-requires : goal.concentration-tc-requires
concentration-tc-requires c =
    segments_ok _ _ (rw c.limit.ensures (omega arith)) (sym c.segments_good.ensures ∙ c.if-segments_good.true)
