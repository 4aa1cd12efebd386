-- `textbook::lay_piece` meets its contract. Assumes nothing.
use Prim.Native.Nat.{◌-◌}
use native.Mathlib.Omega.{arith}
use Rattle.laws.proofs.Listed.{plus_here, plus_past}
use Rattle.textbook.proofs.lay_piece.Goals as goal

pub overflow_add-rows : goal.overflow_add-rows
overflow_add-rows c =
    omega (arith, c.requires.1.0, c.requires.1.1.room (c.args.row - 1) (omega (arith, c.requires.0)))

pub returns-then-row-rows : goal.returns-then-row-rows
returns-then-row-rows c =
    plus_here c.args.row c.args.piece c.args.rows.now c.requires.0 c.if-row-rows.true

pub returns-else-row-rows : goal.returns-else-row-rows
returns-else-row-rows c =
    plus_past c.args.row c.args.piece c.args.rows.now (omega (arith, c.if-row-rows.false))
