-- `hydrograph::line_from` meets its contract: no line past the one looked for is reached. Assumes nothing.
use Prim.Native.Nat.{◌<◌}
use native.Mathlib.Omega.{arith}
use Rattle.hydrograph.proofs.Lines.{on_line_lem, line_within, line_passed}
use Rattle.hydrograph.proofs.line_from.Goals as goal

-- a line of the shape
inside : (c : goal.At-loop-i) → c.loop-i.i < 32
inside c = omega (arith, c.loop-i.invariant, (on_line_lem c.args.peak c.args.t c.requires.1.0).inside)

pub overflow_add-i : goal.overflow_add-i
overflow_add-i c = omega (arith, inside c)

pub knot_at-requires : goal.knot_at-requires
knot_at-requires c = omega (arith, inside c)

pub overflow_add-i-in-loop-i : goal.overflow_add-i-in-loop-i
overflow_add-i-in-loop-i c = omega (arith, inside c.before.before)

pub loop-i-preserved : goal.loop-i-preserved
loop-i-preserved c =
    line_passed c.args.peak c.args.t c.loop-i.i c.requires.1.0 c.loop-i.invariant (rw c.knot_at.ensures at c.loop-i-test.true)

pub loop-i-smaller : goal.loop-i-smaller
loop-i-smaller c = omega (arith, loop-i-preserved c)

pub returns : goal.returns
returns c =
    omega (arith, c.loop-i.invariant, line_within c.args.peak c.args.t c.loop-i.i (rw c.knot_at.ensures at c.loop-i-test.false))
