-- `hydrograph::pen_at` meets its contract: the time lies on the line found. Assumes nothing.
use mathlib.Core.Path.{refl}
use native.Mathlib.Omega.{arith}
use Rattle.hydrograph.specs.Needs.{LineOk}
use Rattle.hydrograph.proofs.Lines.{OnLine, on_line_lem, line_ok, from_side, to_side}
use Rattle.hydrograph.proofs.Weights.{peak_some, peak_most}
use Rattle.hydrograph.proofs.Pens.{pen_starts}
use Rattle.hydrograph.proofs.pen_at.Goals as goal
use Rattle.hydrograph.proofs.pen_at.Goals.{After-line_from-line, After-ratio_at-y1}

-- the line found holds the time
found : (c : After-line_from-line) → OnLine c.args.peak c.args.t c.line_from-line.result
found c = rw c.line_from-line.ensures (on_line_lem c.args.peak c.args.t c.requires.1.0)

-- the line as the code has it
line : (c : After-ratio_at-y1)
    → LineOk c.args.t c.knot_at-low.result c.knot_at-end.result c.ratio_at-y0.result c.ratio_at-y1.result
line c =
    let D = c.args.step in
    let Tp = c.args.peak in
    rw (c.ratio_at-y1.ensures, c.ratio_at-y0.ensures, c.knot_at-end.ensures, c.knot_at-low.ensures)
    (line_ok Tp c.args.t c.line_from-line.result (peak_some D Tp c.requires.0) (peak_most D Tp c.requires.0) (found c.before.before.before.before))

pub knot_at-low-requires : goal.knot_at-low-requires
knot_at-low-requires c = omega (arith, (found (goal.at.knot_at-low-requires c).After-line_from-line).inside)

pub overflow_add-line : goal.overflow_add-line
overflow_add-line c = omega (arith, (found (goal.at.overflow_add-line c).After-line_from-line).inside)

pub knot_at-end-requires : goal.knot_at-end-requires
knot_at-end-requires c = omega (arith, (found (goal.at.knot_at-end-requires c).After-line_from-line).inside)

pub ratio_at-y0-requires : goal.ratio_at-y0-requires
ratio_at-y0-requires c = omega (arith, (found (goal.at.ratio_at-y0-requires c).After-line_from-line).inside)

pub overflow_add-line-2 : goal.overflow_add-line-2
overflow_add-line-2 c = omega (arith, (found (goal.at.overflow_add-line-2 c).After-line_from-line).inside)

pub ratio_at-y1-requires : goal.ratio_at-y1-requires
ratio_at-y1-requires c = omega (arith, (found (goal.at.ratio_at-y1-requires c).After-line_from-line).inside)

pub overflow_sub-length : goal.overflow_sub-length
overflow_sub-length c = omega (arith, (line (goal.at.overflow_sub-length c).After-ratio_at-y1).apart)

pub overflow_sub-end : goal.overflow_sub-end
overflow_sub-end c = omega (arith, (line (goal.at.overflow_sub-end c).After-ratio_at-y1).high)

pub pace_on-pace-requires : goal.pace_on-pace-requires
pace_on-pace-requires c =
    (omega (arith, (line (goal.at.pace_on-pace-requires c).After-ratio_at-y1).apart), (c.requires.0.step_most, ((line (goal.at.pace_on-pace-requires c).After-ratio_at-y1).from_most, (line (goal.at.pace_on-pace-requires c).After-ratio_at-y1).to_most)))

pub overflow_sub-value : goal.overflow_sub-value
overflow_sub-value c = omega (arith, (line (goal.at.overflow_sub-value c).After-ratio_at-y1).high)

pub overflow_mul-value : goal.overflow_mul-value
overflow_mul-value c = omega (arith, from_side (line (goal.at.overflow_mul-value c).After-ratio_at-y1))

pub overflow_sub-value-2 : goal.overflow_sub-value-2
overflow_sub-value-2 c = omega (arith, (line (goal.at.overflow_sub-value-2 c).After-ratio_at-y1).low)

pub overflow_mul-value-2 : goal.overflow_mul-value-2
overflow_mul-value-2 c = omega (arith, to_side (line (goal.at.overflow_mul-value-2 c).After-ratio_at-y1))

pub overflow_add-value : goal.overflow_add-value
overflow_add-value c = omega (arith, from_side (line (goal.at.overflow_add-value c).After-ratio_at-y1), to_side (line (goal.at.overflow_add-value c).After-ratio_at-y1))

pub overflow_mul-value-3 : goal.overflow_mul-value-3
overflow_mul-value-3 c = omega (arith, from_side (line (goal.at.overflow_mul-value-3 c).After-ratio_at-y1), to_side (line (goal.at.overflow_mul-value-3 c).After-ratio_at-y1))

pub nonzero_div-result : goal.nonzero_div-result
nonzero_div-result c = omega (arith, (line (goal.at.nonzero_div-result c).After-ratio_at-y1).apart)

pub nonzero_rem-result : goal.nonzero_rem-result
nonzero_rem-result c = omega (arith, (line (goal.at.nonzero_rem-result c).After-ratio_at-y1).apart)

pub returns : goal.returns
returns c =
    let Tp = c.args.peak in (
      refl,
      pen_starts Tp c.args.step c.args.t c.line_from-line.result _ _ _ _ _ c.requires.1.0 c.line_from-line.ensures (line (goal.at.returns c).After-ratio_at-y1).apart
          c.knot_at-low.ensures
          c.knot_at-end.ensures
          c.ratio_at-y0.ensures
          c.ratio_at-y1.ensures
          c.pace_on-pace.ensures,
    )
