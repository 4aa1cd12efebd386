-- `parts::add_volumes` meets its contract. Assumes nothing.
use mathlib.Core.Path.{refl, sym, ap}
use Prim.Native.Nat.{◌+◌, ◌<◌}
use native.Mathlib.Omega.{arith}
use lib.ListN.{length}
use Rattle.laws.proofs.Listed.{row_due}
use Rattle.parts.proofs.Volumes.{volume_by, volume_most, volume_rises, between_turn, between_pass, between_end}
use Rattle.parts.proofs.add_volumes.Goals as goal
use Rattle.parts.proofs.add_volumes.Goals.{At-loop-i, Start, then-next-sum, else-next-sum}

-- the function's entry, from the head of its loop
abbrev start : At-loop-i → Start
start a = (goal.at.At-loop-i a).Start

pub overflow_sub-rows : goal.overflow_sub-rows
overflow_sub-rows c =
    let s = start (goal.at.overflow_sub-rows c).At-loop-i in
    let r = c.loop-i.invariant in
    omega (arith, c.volume-through.ensures, r.so_far, ap (volume_by s.args.own) r.last, volume_rises s.args.own s.args.sums.now s.requires.0 c.loop-i.i (omega (arith, s.requires.1.1)))

pub overflow_add-rows : goal.overflow_add-rows
overflow_add-rows c =
    let s = start (goal.at.overflow_add-rows c).At-loop-i in
    omega (
      arith,
      c.volume-through.ensures,
      row_due _ _ c.loop-i.invariant.adding,
      s.requires.1.0.room c.loop-i.i (omega arith),
      s.requires.0.area_most,
      volume_most s.args.own s.args.sums.now s.requires.0 (c.loop-i.i + 1) (omega (arith, s.requires.1.1)),
    )

pub loop-i-preserved : goal.loop-i-preserved
loop-i-preserved c =
    let s = start (goal.at.loop-i-preserved c).At-loop-i in
    let l : c.loop-i.i < length s.args.rows.now = omega arith in
    elim c.if-next-sum.branch [
      | then-next-sum w ↦ rw (w.rows-is, w.sum-is, w.before-is) (between_turn _ _ _ c.loop-i.invariant l refl w.volume-through.ensures)
      | else-next-sum w ↦ rw (w.rows-is, w.sum-is, w.before-is) (between_pass _ _ _ c.loop-i.invariant l (sym w.if-next-sum.false))
    ]

pub returns : goal.returns
returns c = between_end _ _ _ c.loop-i.invariant (omega (arith, c.loop-i.invariant.adding.long))
