-- `marks::mark_of` meets its contract. Assumes nothing.
use Rattle.std.proofs.Common.{◌≢◌}
use mathlib.Core.Path.{sym, ap, ◌∙◌}
use native.Mathlib.Omega.{arith}
use borrow.Author.Tests.{ne_eqb}
use Rattle.rows.specs.Figures.{at}
use Rattle.marks.specs.declared.Mark.TheVariants.{Outflow, Peak}
use Rattle.marks.specs.ChartMarks.{double_of, mark_at}
use Rattle.marks.proofs.mark_of.Goals as goal

pub returns-then-is_peak : goal.returns-then-is_peak
unfolding mark_at
returns-then-is_peak c =
    let s = c.args in
    let wet : at s.outflow.now s.i ≢ 0 = omega arith in
    let stage = c.double-stage.ensures ∙ ap double_of c.stage_at-stage.ensures in
    rw (ne_eqb (at s.outflow.now s.i) 0 wet, sym c.is_peak.ensures ∙ c.if-is_peak.true)
    (λ i. Peak (c.double-flow.ensures i) (stage i))

pub returns : goal.returns
unfolding mark_at
returns c =
    let s = c.args in
    let wet : at s.outflow.now s.i ≢ 0 = omega arith in
    rw (ne_eqb (at s.outflow.now s.i) 0 wet, sym c.is_peak.ensures ∙ c.if-is_peak.false) (ap Outflow c.double-flow.ensures)
