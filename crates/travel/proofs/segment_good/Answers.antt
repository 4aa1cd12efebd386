-- `travel::segment_good` meets its contract. Assumes nothing.
use mathlib.Core.Path.{sym, ◌∙◌}
use Rattle.travel.proofs.Segments.{good_ok, good_err}
use Rattle.travel.proofs.segment_good.Goals as goal

pub returns-then-placed : goal.returns-then-placed
returns-then-placed c =
    rw (good_ok _ _ _ _ _ c.args.limit c.args.i c.in-Ok.segment c.in-Ok.ensures, sym c.placed.ensures ∙ c.if-placed.true) c.within.ensures

pub returns-else-placed : goal.returns-else-placed
returns-else-placed c =
    rw (good_ok _ _ _ _ _ c.args.limit c.args.i c.in-Ok.segment c.in-Ok.ensures, sym c.placed.ensures ∙ c.if-placed.false) c.if-placed.false

pub returns-in-Err : goal.returns-in-Err
returns-in-Err c = sym (good_err _ _ _ _ _ c.args.limit c.args.i c.in-Err.field-0 c.in-Err.ensures)
