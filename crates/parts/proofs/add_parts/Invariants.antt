-- `parts::add_parts` meets its contract. Assumes nothing.
use Prim.Native.Nat.{◌+◌, ◌-◌}
use Rattle.parts.specs.Needs.{part_by}
use Rattle.parts.proofs.Added.{Parted}
use Rattle.parts.proofs.add_parts.Given as goal

abbrev pub invariant-loop-at : goal.invariant-loop-at
invariant-loop-at l = Parted (part_by l.step l.rain l.own) (l.from + 1) l.initial.rows l.rows l.at

abbrev pub decreases-loop-at : goal.decreases-loop-at
decreases-loop-at l = l.m - l.at
