-- `hydrograph::weight` meets its contract: the time lies on the line found. Assumes nothing.
use Prim.Native.Nat.{◌+◌, ◌*◌}
use native.Mathlib.Omega.{arith}
use Rattle.hydrograph.specs.InflowRows.{weight}
use Rattle.hydrograph.proofs.Lines.{OnLine, time_most, knot_fits, line_ok}
use Rattle.hydrograph.proofs.Weights.{peak_some, peak_most, weight_on_lem}
use Rattle.hydrograph.proofs.weight.Goals as goal
use Rattle.hydrograph.proofs.weight.Goals.{After-line_at-i}

-- the line found holds the time
found : (c : After-line_at-i) → OnLine c.args.peak (10 * (c.args.j * c.args.step)) c.line_at-i.result
found c = rw c.line_at-i.ensures (weight_on_lem c.args.step c.args.peak c.requires.0 c.args.j c.requires.1)

pub time_at-requires : goal.time_at-requires
time_at-requires c = omega (arith, (found (goal.at.time_at-requires c).After-line_at-i).inside)

pub overflow_mul-time_at : goal.overflow_mul-time_at
overflow_mul-time_at c =
    knot_fits
    (rw c.time_at.ensures (time_most c.line_at-i.result (omega (arith, (found (goal.at.overflow_mul-time_at c).After-line_at-i).inside))))
    (peak_most c.args.step c.args.peak c.requires.0)

pub overflow_add-i : goal.overflow_add-i
overflow_add-i c = omega (arith, (found (goal.at.overflow_add-i c).After-line_at-i).inside)

pub time_at-requires-2 : goal.time_at-requires-2
time_at-requires-2 c = omega (arith, (found (goal.at.time_at-requires-2 c).After-line_at-i).inside)

pub overflow_mul-time_at-2 : goal.overflow_mul-time_at-2
overflow_mul-time_at-2 c =
    knot_fits
    (rw c.time_at-2.ensures (time_most (c.line_at-i.result + 1) (omega (arith, (found (goal.at.overflow_mul-time_at-2 c).After-line_at-i).inside))))
    (peak_most c.args.step c.args.peak c.requires.0)

pub ratio_at-requires : goal.ratio_at-requires
ratio_at-requires c = omega (arith, (found (goal.at.ratio_at-requires c).After-line_at-i).inside)

pub overflow_add-i-2 : goal.overflow_add-i-2
overflow_add-i-2 c = omega (arith, (found (goal.at.overflow_add-i-2 c).After-line_at-i).inside)

pub ratio_at-requires-2 : goal.ratio_at-requires-2
ratio_at-requires-2 c = omega (arith, (found (goal.at.ratio_at-requires-2 c).After-line_at-i).inside)

pub on_line-requires : goal.on_line-requires
on_line-requires c =
    let D = c.args.step in
    let Tp = c.args.peak in
    rw (c.ratio_at-2.ensures, c.ratio_at.ensures, c.time_at-2.ensures, c.time_at.ensures)
    (line_ok Tp (10 * (c.args.j * D)) c.line_at-i.result (peak_some D Tp c.requires.0) (peak_most D Tp c.requires.0) (found (goal.at.on_line-requires c).After-line_at-i))

pub returns : goal.returns
unfolding weight
returns c = cc
