-- `alter::swap_rows` meets its contract. Assumes nothing.
use Prim.Native.Nat.{◌+◌, ◌-◌}
use Rattle.parts.specs.Needs.{part_by}
use Rattle.alter.proofs.Blocks.{Swapping}
use Rattle.alter.proofs.swap_rows.Given as goal

abbrev pub invariant-loop-at : goal.invariant-loop-at
invariant-loop-at l = Swapping (part_by l.step l.rain l.old) (part_by l.step l.rain l.fresh) (l.from + 1) l.initial.inflow l.inflow l.at

abbrev pub decreases-loop-at : goal.decreases-loop-at
decreases-loop-at l = l.m - l.at
