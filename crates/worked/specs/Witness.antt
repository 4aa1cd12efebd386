-- A witness that the definitions are of something: one small study that is done, one edit of its rows that is done, and two that are refused; one edit of a row that no study leaves; and one study of a mean that is no whole number.
use Rattle.std.specs.Prelude.{◌≡◌, List, [], ◌∷◌, ◌++◌, ℕ, ◌-◌, ◌*◌, ◌/◌, pos, replicate, Ok, Err, Some}
use Rattle.curve.specs.CurveNumbers.{patch_width, most_patches, total_area, weighted, nearest}
use Rattle.runoff.specs.RunoffDepth.{whole_depth}
use Rattle.travel.specs.TravelTime.{segment_width, most_segments}
use Rattle.hydrograph.specs.InflowRows.{weight, total_weight, volume_of}
use Rattle.refusals.specs.declared.Rule.{Rule}
use Rattle.refusals.specs.declared.Rule.TheVariants.{Patches, Over}
use Rattle.checks.specs.Site.{Site, Rows}
use Rattle.study.specs.declared.Figures.{Figures}
use Rattle.study.specs.Study.{study_answer, study_rows}
use Rattle.rewrite.specs.declared.Edited.{Edited}
use Rattle.edit.specs.Edit.{EditAnswer, edit_answer, edit_rows}
use Rattle.worked.specs.Lines.{two_rows}

-- a subarea of an area: one patch of cover code 4 on soil group A, and one segment of kind 3, 360 ft at 1 ft/s (Tc 360, Tp 246 at D 60); and what stands in the spare numbers and behind them
abbrev pub parking_before : ℕ → ℕ → List ℕ
parking_before unread area =
    (1 ∷ 4 ∷ 1 ∷ area ∷ replicate (patch_width * most_patches - 3) unread) ++ (1 ∷ 3 ∷ 360 ∷ 100 ∷ replicate (segment_width * most_segments - 3) unread)

abbrev pub parking : ℕ → List ℕ
parking area = parking_before 0 area

-- D 60, sheet rule 1 (there is no sheet flow, and one is needed all the same), 3 in of rain in one step, a list of subareas, and the pond of the worked lines
abbrev pub site_on : List ℕ → Site
site_on subareas =
    record {
      setup = record { step = 60; first = 1; rule = 1 };
      rain = 0 ∷ 3000 ∷ [];
      subareas = subareas;
      pond = two_rows;
    }

abbrev pub site_of : ℕ → Site
site_of area = site_on (parking area)

-- one row: inflow, outflow, storage
abbrev pub one_row : ℕ → ℕ → ℕ → Rows
one_row v o s = record { inflow = v ∷ []; outflow = o ∷ []; storage = s ∷ [] }

-- the rows lent, those of area 1, and those of area 2
abbrev pub lent : Rows
lent = one_row 0 0 0

abbrev pub small : Rows
small = one_row 2566 21 1936

abbrev pub large : Rows
large = one_row 5132 42 3872

-- their figures, and what the edit from the one to the other tells
abbrev pub small_figures : Figures
small_figures =
    record { inflow = 2566; released = 630; storage = 1936; peak = 21; row = 1; stage = 213; surfaces = 1; districts = 0; lots = 0; rural = 0 }

abbrev pub large_figures : Figures
large_figures =
    record { inflow = 5132; released = 1260; storage = 3872; peak = 42; row = 1; stage = 427; surfaces = 2; districts = 0; lots = 0; rural = 0 }

abbrev pub enlarged : Edited
enlarged = record { figures = large_figures; changed = Some 1; peak = pos 21; released = pos 630 }

-- the row of area 1 by the rule before Q-3 (Tp 216), and what an edit of it to area 2 leaves and tells
abbrev pub earlier : Rows
earlier = one_row 3550 29 2680

abbrev pub mixed : Rows
mixed = one_row 6116 50 4616

abbrev pub mixed_told : Edited
mixed_told =
    record {
      figures = record { inflow = 6116; released = 1500; storage = 4616; peak = 50; row = 1; stage = 509; surfaces = 2; districts = 0; lots = 0; rural = 0 };
      changed = Some 1;
      peak = pos 21;
      released = pos 630;
    }

-- two patches of area 1 each, on cover code 3 and soil groups B (61) and C (74), and a subarea of them with the same segment
abbrev pub lawn_patches : List ℕ
lawn_patches = 3 ∷ 2 ∷ 1 ∷ 3 ∷ 3 ∷ 1 ∷ []

abbrev pub lawn : List ℕ
lawn = (2 ∷ (lawn_patches ++ replicate (patch_width * most_patches - 6) 0)) ++ (1 ∷ 3 ∷ 360 ∷ 100 ∷ replicate (segment_width * most_segments - 3) 0)

-- its row over 67.5; and over 68, by the rule before Q-5
abbrev pub by_tenths : Rows
by_tenths = one_row 1122 9 852

abbrev pub by_wholes : Rows
by_wholes = one_row 1161 9 891

-- an edit refused by a rule at a place
abbrev pub refused_by : Rule → ℕ → EditAnswer
refused_by rule place = Err (record { rule = rule; place = place })

-- a study of area 1 is done; an edit of its rows to area 2 is done; to area 0 it is refused with 6, to area 5 with 14, and the rows stay
pub record Witness : Type 0 where
  pub study_answers : study_answer (site_of 1) lent ≡ Ok small_figures
  pub study_leaves : study_rows (site_of 1) lent ≡ small
  pub edit_answers : edit_answer (site_of 1) small 1 (parking 2) ≡ Ok enlarged
  pub edit_leaves : edit_rows (site_of 1) small 1 (parking 2) ≡ large
  pub no_area : edit_answer (site_of 1) small 1 (parking 0) ≡ refused_by Patches 1
  pub no_area_leaves : edit_rows (site_of 1) small 1 (parking 0) ≡ small
  pub too_large : edit_answer (site_of 1) small 1 (parking 5) ≡ refused_by Over 1
  pub too_large_leaves : edit_rows (site_of 1) small 1 (parking 5) ≡ small
  -- the row from before is edited like any other, though a study that is lent it leaves another
  pub again_leaves : study_rows (site_of 1) earlier ≡ small
  pub earlier_answers : edit_answer (site_of 1) earlier 1 (parking 2) ≡ Ok mixed_told
  pub earlier_leaves : edit_rows (site_of 1) earlier 1 (parking 2) ≡ mixed
  -- over tenths a study leaves another row than docs/SCOPE.md's runoff of the mean rounded to a whole gives
  pub lawn_leaves : study_rows (site_on lawn) lent ≡ by_tenths
  pub lawn_again : study_rows (site_on lawn) by_wholes ≡ by_tenths
  pub lawn_by_wholes : volume_of 2 (weight 246 60 1 * whole_depth (nearest (weighted lawn_patches) (total_area lawn_patches)) 3000 / total_weight 246 60) ≡ 1161
