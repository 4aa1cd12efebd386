-- The witness holds, by computation; so there are rows that stand after a study, after an edit and after a rewriting, and the balance and the chain are of them; and two rows that do not stand. Assumes nothing.
use mathlib.Core.Path.{◌≡◌, refl, ap, subst, ◌∙◌}
use mathlib.Core.Bool.{true≢false}
use Prim.Native.Nat.{ℕ, zero, suc, ◌+◌, ◌<◌}
use native.Mathlib.Omega.{arith}
use Rattle.laws.specs.Scan.{scan}
use Rattle.laws.specs.Sum.{sum_to}
use Rattle.laws.specs.Flat.{flat_good}
use Rattle.laws.specs.Listed.{rows_from}
use Rattle.curve.specs.CurveNumbers.{cover_table, cover_number, class_of, total_area, weighted, nearest, mean_tenths, composite_tenths, patch_within, patches_good}
use Rattle.runoff.specs.RunoffDepth.{depth, whole_depth}
use Rattle.travel.specs.TravelTime.{segment_time, concentration, time_to_peak, rule_good, sheet_limit, segment_within, place_within, segments_good, SameSegment}
use Rattle.hydrograph.specs.InflowRows.{shape, time, ratio, line_at, on_line, weight, total_weight, runoff_at, depth_released, volume_of, part, concentration_good, peak_good, weights_good}
use Rattle.pond.specs.PondRows.{sum_at, lower, between, discharge_at, stage_at, arrived, settled, count_good, row_within, order_good}
use Rattle.rows.specs.Routing.{states, passed, over_row, state_before}
use Rattle.rows.specs.Figures.{at, release_at, max_to, peak_row, kept_to, figures_of, stands_within}
use Rattle.subarea.specs.Records.{record_at, segments, patches_pass, segments_pass, SameRecord, SameRead}
use Rattle.checks.specs.Site.{Rows, with_subareas}
use Rattle.checks.specs.Order.{lengths_good, step_good, entries_good, last_good, records_good}
use Rattle.study.specs.Study.{over_check, study_refusal, study_answer, study_rows}
use Rattle.alter.specs.Altering.{swapped, first_changed, place_good}
use Rattle.fitting.specs.Fits.{inflow_fits}
use Rattle.rewrite.specs.Rewriting.{edited_of}
use Rattle.edit.specs.Edit.{over_from, edit_refusal, edit_answer, edit_rows}
use Rattle.edit.specs.Standing.{Standing, studied, edited, rewritten, Studied}
use Rattle.edit.proofs.EditIsStudy.{chain, standing_balance}
use Rattle.worked.specs.Witness.{parking_before, parking, site_on, site_of, lent, small, large, earlier, small_figures, enlarged, lawn, by_wholes, Witness}

pub witness : Witness
unfolding scan sum_to flat_good cover_table cover_number class_of total_area weighted nearest mean_tenths composite_tenths patch_within patches_good depth whole_depth segment_time concentration time_to_peak rule_good sheet_limit segment_within place_within segments_good shape time ratio line_at on_line weight total_weight runoff_at depth_released volume_of part concentration_good peak_good weights_good sum_at lower between discharge_at stage_at arrived settled count_good row_within order_good states passed over_row state_before max_to peak_row kept_to figures_of stands_within patches_pass segments_pass lengths_good step_good entries_good last_good records_good rows_from over_check study_refusal study_answer study_rows swapped first_changed place_good inflow_fits over_from edit_refusal edited_of edit_answer edit_rows
witness =
    record {
      study_answers = refl;
      study_leaves = refl;
      edit_answers = refl;
      edit_leaves = refl;
      no_area = refl;
      no_area_leaves = refl;
      too_large = refl;
      too_large_leaves = refl;
      again_leaves = refl;
      earlier_answers = refl;
      earlier_leaves = refl;
      lawn_leaves = refl;
      lawn_again = refl;
      lawn_by_wholes = refl;
    }

-- rows that stand: after the study, and after the edit
pub stands : Standing (site_of 1) small
stands =
    subst (λ (l : Rows). Standing (site_of 1) l) witness.study_leaves (studied (site_of 1) lent small_figures witness.study_answers)

pub stands_edited : Standing (site_of 2) large
stands_edited =
    subst (λ (l : Rows). Standing (site_of 2) l) witness.edit_leaves
    (edited (site_of 1) small stands 1 (omega arith) (omega arith) (parking 2) refl enlarged witness.edit_answers)

-- and after a host has put 9 for every number that is not read
unread : SameRead (parking 2) (parking_before 9 2)
unread = record { long = refl; each = only }
  where
    route : (i : ℕ) → i < 1 → SameSegment (segments (parking 2)) (segments (parking_before 9 2)) i
    route zero h = record { first = refl; second = refl; third = refl; fourth = λ e. absurd (true≢false e); fifth = λ e. absurd (true≢false e) }
    route (suc i) h = absurd (omega arith)

    only : (i : ℕ) → i < 1 → SameRecord (record_at (parking 2) i) (record_at (parking_before 9 2) i)
    only zero h = record { patch_counts = refl; patched = refl; segment_counts = refl; routed = record { long = refl; each = route } }
    only (suc i) h = absurd (omega arith)

pub stands_rewritten : Standing (with_subareas (site_of 2) (parking_before 9 2)) large
stands_rewritten = rewritten (site_of 2) large stands_edited (parking_before 9 2) unread

-- the chain of them: a study of area 2 leaves the same rows
pub chained : Studied (with_subareas (site_of 2) (parking_before 9 2)) large
chained = chain stands_rewritten

-- the balance of them: 5132 in, 3872 stored and 1260 released
pub balanced : sum_to (at large.inflow) 1 ≡ at large.storage 0 + sum_to (release_at 30 0 large.outflow) 1
balanced = standing_balance stands_rewritten 0 (omega arith)

-- a row of the rule before Q-3 does not stand: a study leaves 2566 where it has 3550
pub earlier_stands_not : Standing (site_of 1) earlier → ⊥
earlier_stands_not stood = omega (arith, ap (λ (l : Rows). at l.inflow 0) ((chain stood).rows ∙ witness.again_leaves))

-- nor does a row over the mean rounded to a whole, the rule before Q-5: a study leaves 1122 where it has 1161
pub wholes_stand_not : Standing (site_on lawn) by_wholes → ⊥
wholes_stand_not stood = omega (arith, ap (λ (l : Rows). at l.inflow 0) ((chain stood).rows ∙ witness.lawn_again))
