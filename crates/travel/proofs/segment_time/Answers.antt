-- `travel::segment_time` meets its contract. Assumes nothing.
use mathlib.Core.Path.{sym, ◌∙◌}
use Rattle.travel.proofs.Segments.{time_ok}
use Rattle.travel.proofs.segment_time.Goals as goal

pub returns : goal.returns
returns c = c.time.ensures ∙ sym (time_ok _ _ _ _ _ c.in-Ok.segment c.in-Ok.ensures)
