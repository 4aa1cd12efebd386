-- `guarded::ponds::last_row` routes from the empty pond through good states only.
use Rattle.pond.specs.Needs.{StateOk}
use Rattle.guarded.proofs.ponds.last_row.Given as goal

abbrev pub invariant-loop-volume : goal.invariant-loop-volume
invariant-loop-volume l = StateOk l.pond.half l.pond.table.numbers.now l.state
