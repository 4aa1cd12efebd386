-- `hydrograph::fill_weights` meets its contract. Assumes nothing.
use mathlib.Core.Path.{◌≡◌}
use Prim.Native.Nat.{◌<◌}
use native.Mathlib.Omega.{arith}
use Rattle.hydrograph.specs.InflowRows.{weights}
use Rattle.hydrograph.specs.Needs.{hand}
use Rattle.hydrograph.proofs.Hands.{Next, next_weight, next_none, filling_turn, filling_line, filling_end}
use Rattle.hydrograph.proofs.fill_weights.Goals as goal
use Rattle.hydrograph.proofs.fill_weights.Goals.{After-pen_above-pen, Joined-done-i, Start, then-done-i, else-done-i}

-- a weight is left
left : (s : Start) → s.args.done < weights s.args.peak s.args.step
left s = omega (arith, s.requires.timing_ok.1.0, s.requires.timing_ok.1.1)

-- where the branches meet: the next weight, or 0
met : (c : Joined-done-i)
    → Next c.args.peak c.args.step c.args.done
    c.if-done-i.pen c.loop-i.i c.if-done-i.next
met c =
    let Tp = c.args.peak in
    let D = c.args.step in
    let done = c.args.done in
    elim c.if-done-i.branch [
      | then-done-i w ↦ rw (w.pen-is, w.next-is) (next_weight Tp D done c.requires.timing_ok.0 c.loop-i.invariant (omega (arith, c.requires.timing_ok.1.0, w.if-done-i.true)) w.pen_next-pen.result w.pen_next-pen.ensures.0 w.pen_next-pen.ensures.1)
      | else-done-i w ↦ rw (w.pen-is, w.next-is) (next_none Tp D done c.requires.timing_ok.0 c.loop-i.invariant (left c.before.before.before.before) (omega (arith, c.requires.timing_ok.1.0, w.if-done-i.false)))
    ]

pub overflow_cast-list : goal.overflow_cast-list
overflow_cast-list c = omega (arith, (met (goal.at.overflow_cast-list c).Joined-done-i).small)

pub loop-i-preserved : goal.loop-i-preserved
loop-i-preserved c =
    filling_turn c.args.peak c.args.step c.args.done c.requires.timing_ok.0 c.loop-i.invariant c.loop-i-test.true (met (goal.at.loop-i-preserved c).Joined-done-i)

pub returns : goal.returns
returns c =
    let l = c.loop-i in
    let whole : l.i ≡ hand = omega (arith, l.invariant.at) in
    let so = rw whole at l.invariant in
    (filling_line c.args.peak c.args.step c.args.done c.requires.timing_ok.0 so, filling_end c.args.peak c.args.step c.args.done c.requires.timing_ok.0 so)
