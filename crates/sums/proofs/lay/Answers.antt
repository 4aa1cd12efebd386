-- `sums::lay` meets its contract. Assumes nothing.
use Prim.Native.Nat.{◌<◌}
use native.Mathlib.Omega.{arith}
use lib.ListN.{length}
use Rattle.laws.proofs.Listed.{row_due, adding_turn, adding_end}
use Rattle.sums.proofs.Eights.{eight_hand}
use Rattle.sums.proofs.lay.Goals as goal

pub overflow_add-sums-in-loop-i-3 : goal.overflow_add-sums-in-loop-i-3
overflow_add-sums-in-loop-i-3 c =
    let l : c.loop-i.i < length c.args.sums.now = omega (arith, c.loop-i.invariant.long) in
    omega (arith, row_due _ _ c.loop-i.invariant, c.requires.1.1.1.each c.loop-i.i l)

pub loop-i-preserved : goal.loop-i-preserved
loop-i-preserved c =
    adding_turn _ _ c.loop-i.invariant (omega (arith, c.loop-i.invariant.long))
    (omega (arith, row_due _ _ c.loop-i.invariant, eight_hand c.args.w.now c.args.q.now c.loop-i.i))

pub returns : goal.returns
returns c = adding_end _ _ c.loop-i.invariant (omega (arith, c.loop-i.invariant.long))
