-- `hydrograph::pen_next` meets its contract: on the pen's line by the carry, else from that line on. Assumes nothing.
use mathlib.Core.Path.{refl}
use Prim.Native.Nat.{◌+◌, ◌*◌, ◌≤◌}
use native.Mathlib.Omega.{arith}
use Rattle.hydrograph.proofs.Pens.{Carried, pen_most, pen_short, no_carry, carry, down_stands, pen_moves}
use Rattle.hydrograph.proofs.pen_next.Goals as goal
use Rattle.hydrograph.proofs.pen_next.Goals.{Start, Joined-rest-pen, then-rest-pen, else-rest-pen}

-- where the step stays on the line, how large the sums get
small : (s : Start) → s.args.pen.time + 10 * s.args.step ≤ s.args.pen.end → s.args.pen.weight + s.args.pen.pace.up ≤ 36001000000
small s stays =
    let ok = s.requires.1.0.on stays in
    omega (arith, pen_most s.args.peak s.args.step s.args.pen ok s.requires.0, ok.pace_ok.up_most)

short : (s : Start) → s.args.pen.time + 10 * s.args.step ≤ s.args.pen.end → s.args.pen.rest + s.args.pen.pace.more ≤ 40000000
short s stays =
    let ok = s.requires.1.0.on stays in
    omega (arith, pen_short s.args.peak s.args.step s.args.pen ok s.requires.0, ok.less, ok.pace_ok.more_most)

-- where the branch with the carry and the one without meet
met : (c : Joined-rest-pen)
    → Carried c.args.peak c.args.step
    c.args.pen c.if-rest-pen.weight c.if-rest-pen.rest
met c =
    let Tp = c.args.peak in
    let D = c.args.step in
    let pen = c.args.pen in
    elim c.if-rest-pen.branch [
      | then-rest-pen w ↦ rw (w.weight-is, w.rest-is) (carry Tp D pen (c.requires.1.0.on c.if-t-pen.false) c.if-t-pen.false w.if-rest-pen.true)
      | else-rest-pen w ↦ rw (w.weight-is, w.rest-is) (no_carry Tp D pen (c.requires.1.0.on c.if-t-pen.false) c.if-t-pen.false w.if-rest-pen.false)
    ]

pub overflow_add-weight : goal.overflow_add-weight
overflow_add-weight c =
    omega (arith, small (goal.at.overflow_add-weight c).Start c.if-t-pen.false)

pub overflow_add-rest : goal.overflow_add-rest
overflow_add-rest c =
    omega (arith, short (goal.at.overflow_add-rest c).Start c.if-t-pen.false)

pub overflow_add-weight-then-rest-pen : goal.overflow_add-weight-then-rest-pen
overflow_add-weight-then-rest-pen c =
    omega (arith, small (goal.at.overflow_add-weight-then-rest-pen c).Start c.if-t-pen.false)

pub overflow_sub-result : goal.overflow_sub-result
overflow_sub-result c =
    down_stands c.args.peak c.args.step c.args.pen (c.requires.1.0.on c.if-t-pen.false) c.if-t-pen.false (met (goal.at.overflow_sub-result c).Joined-rest-pen)

pub returns : goal.returns
returns c =
    (refl, pen_moves c.args.peak c.args.step c.args.pen (c.requires.1.0.on c.if-t-pen.false) c.if-t-pen.false (met (goal.at.returns c).Joined-rest-pen) c.requires.1.1)
