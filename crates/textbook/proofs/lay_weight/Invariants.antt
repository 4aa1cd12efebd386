-- `textbook::lay_weight` meets its contract. Assumes nothing.
use mathlib.Core.Path.{◌≡◌}
use Prim.Native.Nat.{◌≤◌}
use lib.ListN.{length}
use Rattle.laws.specs.Listed.{plus}
use Rattle.textbook.specs.Needs.{steps_to}
use Rattle.textbook.proofs.lay_weight.Given as goal

abbrev pub invariant-loop-t : goal.invariant-loop-t
invariant-loop-t l = (l.t ≤ length l.more) × (l.rows ≡ plus (steps_to l.more l.weight l.j l.t) 1 l.initial.rows)
