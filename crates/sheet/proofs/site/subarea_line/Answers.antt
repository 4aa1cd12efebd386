-- `sheet::site::subarea_line` prints what a record gives that passes refusals 6 and 7, at a step within its limits.
use mathlib.Core.Path.{sym, ◌∙◌}
use native.Mathlib.Omega.{arith}
use Rattle.travel.specs.Needs.{TimeOk}
use Rattle.travel.proofs.Times.{concentration_ok, peak_most}
use Rattle.subarea.proofs.Subareas.{segments_fit}
use Rattle.sheet.proofs.site.subarea_line.Goals as goal

pub ground-ground-requires : goal.ground-ground-requires
ground-ground-requires c = (c.requires, sym c.patches_pass.ensures ∙ c.if-not-patches_pass.false)

pub time-time-requires : goal.time-time-requires
time-time-requires c = (c.requires, segments_fit _ _ (sym c.segments_pass.ensures ∙ c.if-not-segments_pass.false))

-- the segments pass by the sheet rule, so that the time of concentration is one that has a time to peak
pub time_to_peak-peak-requires : goal.time_to_peak-peak-requires
time_to_peak-peak-requires c =
    let routed = segments_fit _ _ (sym c.segments_pass.ensures ∙ c.if-not-segments_pass.false) in
    rw c.time-time.ensures (concentration_ok routed.fits)

pub weights-weights-requires : goal.weights-weights-requires
weights-weights-requires c =
    let routed = segments_fit _ _ (sym c.segments_pass.ensures ∙ c.if-not-segments_pass.false) in
    let timed : TimeOk c.time-time.result = rw c.time-time.ensures (concentration_ok routed.fits) in
    (omega arith, omega (arith, c.time_to_peak-peak.ensures, peak_most c.args.setup.step timed))
