-- `sheet::site::segment_line` asks for the time of a segment within its limits.
use mathlib.Core.Path.{sym, ◌∙◌}
use Rattle.travel.proofs.Limits.{limit_far, segments_ok}
use Rattle.sheet.proofs.site.segment_line.Goals as goal

-- the list passes, so that it has a segment, whole and within its limits
pub segment_time-time-requires : goal.segment_time-time-requires
segment_time-time-requires c =
    let limit = c.sheet_limit in
    let ok = segments_ok _ _ (rw limit.ensures (limit_far _)) (sym c.segments_good.ensures ∙ c.if-not-segments_good.false) in
    ok.each 0 ok.least
