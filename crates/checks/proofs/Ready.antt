-- What the checks 1 to 13 leave, group by group. Assumes nothing.
use mathlib.Core.Path.{◌≡◌, refl, sym, ◌∙◌}
use mathlib.Core.Bool.{Bool, true, false, ◌&&◌}
use mathlib.Core.List.{List, [], ◌∷◌, ◌++◌, map}
use Prim.Native.Nat.{ℕ, ◌+◌, ◌-◌, ◌/◌, ◌%◌, ◌≤◌}
use native.Mathlib.Nat.{add-sub_cancel}
use native.Mathlib.Omega.{arith}
use borrow.Author.Tests.{eqb-true, leb-true, ne_eqb}
use lib.Dec.{leb, eqb}
use lib.ListN.{length, get_or}
use Rattle.laws.specs.Pick.{pick}
use Rattle.laws.specs.Within.{within}
use Rattle.laws.specs.Limits.{most_rows, least_step, most_step, last_number, most_rain, most_subareas, most_area}
use Rattle.laws.proofs.Tests.{both_left, both_right, kept}
use Rattle.std.specs.Prelude.{Ok, Err, Option, None, Some}
use Rattle.refusals.specs.declared.Rule.{Rule}
use Rattle.refusals.specs.declared.Refusal.{Refusal}
use Rattle.travel.specs.Needs.{TimeOk}
use Rattle.travel.proofs.Times.{concentration_ok}
use Rattle.travel.specs.TravelTime.{rule_good}
use Rattle.hydrograph.specs.InflowRows.{peak_good, weights_good}
use Rattle.hydrograph.specs.Needs.{RainOk}
use Rattle.hydrograph.proofs.Timing.{timing_ok}
use Rattle.pond.specs.PondRows.{count_good, first_bad, first_short, row_place, table_place}
use Rattle.pond.specs.Needs.{HalfOk, TableOk, PondOk}
use Rattle.pond.proofs.Limits.{table_ok, pond_ok}
use Rattle.refusals.specs.declared.Rule.TheVariants.{Lengths, Step, Rain, LastRow, Subareas, Patches, Segments, Area, Coarse, Weights, PondTable, PondHeld, Rise, SheetRule}
use Rattle.refusals.specs.Refusals.{Line, none, unless, or_else, first_of, first_at, first_refusal, AllPass}
use Rattle.refusals.proofs.Orders.{stops, goes_on, all_pass, both_pass, charge_none, first_none, first_at_none}
use Rattle.laws.proofs.Places.{search_passes}
use Rattle.subarea.specs.declared.Setup.{Setup}
use Rattle.subarea.specs.Records.{half_of, width, records_in, record_at, time_of, patches_pass, segments_pass}
use Rattle.subarea.specs.Needs.{RecordsOk, RoutedOk, AllPatches, AllSegments}
use Rattle.subarea.proofs.Subareas.{record_length, segments_fit, sheets_fit}
use Rattle.checks.specs.Site.{Site, Rows, asked, basin, site}
use Rattle.checks.specs.Order.{lengths_good, step_good, entries_good, entry_good, first_entry, rise_good, first_leap, last_good, records_good, frame_lines, rain_lines, run_lines, all_area, over_list, limit_tests, list_lines, pond_lines, inflow_lines, check_lines}
use Rattle.checks.specs.Needs.{StepOk, RuleOk, LengthsOk, RisesOk, RunOk, ListOk, SheetsOk, BasinOk, SiteOk}
use Rattle.checks.proofs.Passed.{each_passes}

module _ (rain : List ℕ) where
  entry_limit : (i : ℕ) → entry_good rain i ≡ true → get_or rain i 0 ≤ most_rain
  entry_limit i e = leb-true _ _ (both_left (leb (get_or rain i 0) most_rain) _ e)

  entry_order : (i : ℕ) → entry_good rain i ≡ true → pick (eqb i 0) (eqb (get_or rain i 0) 0) (leb (get_or rain (i - 1) 0) (get_or rain i 0)) ≡ true
  entry_order i e = both_right (leb (get_or rain i 0) most_rain) _ e

  rises : (i : ℕ) → entry_good rain (i + 1) ≡ true → get_or rain i 0 ≤ get_or rain (i + 1) 0
  rises i e = leb-true _ _ (rw (ne_eqb (i + 1) 0 (omega arith), add-sub_cancel i 1) at (entry_order (i + 1) e))

  -- 3 leaves no more entries than one more than the rows
  entries_few : (m : ℕ) → AllPass (rain_lines rain m) → length rain ≤ m + 1
  unfolding entries_good
  entries_few m (count, _) = (kept 2 (length rain) (m + 1) (charge_none Rain _ 0 count)).high

  -- and a rain within its limits
  rain_ok : (m : ℕ) → AllPass (rain_lines rain m) → RainOk rain
  unfolding entries_good
  rain_ok m (count, (entry, _)) =
      let long = kept 2 (length rain) (m + 1) (charge_none Rain _ 0 count) in
      let each = search_passes (entry_good rain) (length rain) (first_at_none Rain (first_entry rain) entry) in
      record {
        least = long.low;
        first = eqb-true _ _ (entry_order 0 (each 0 (omega (arith, long.low))));
        rising = λ i h. rises i (each (i + 1) h);
        limit = λ i h. entry_limit i (each i h);
      }

  -- 19 leaves a rain without a leap
  rises_ok : (m : ℕ) → AllPass (rain_lines rain m) → RisesOk rain
  rises_ok m (_, (_, (leap, _))) =
      let each = search_passes (rise_good rain) (length rain) (first_at_none Rise (first_leap rain) leap) in
      record { each = λ i h. leb-true _ _ (rw (add-sub_cancel i 1) at (each (i + 1) h)) }

-- 5 leaves whole records
records_ok : (s : List ℕ) → records_good s ≡ true → RecordsOk s
unfolding records_good
records_ok s e =
    let few = kept 1 (records_in s) most_subareas (both_right (eqb (length s % width) 0) (within 1 (records_in s) most_subareas) e) in
    record {
      whole = omega (arith, eqb-true (length s % width) 0 (both_left (eqb (length s % width) 0) (within 1 (records_in s) most_subareas) e));
      least = few.low;
      most = few.high;
    }

-- 1 leaves lists of one length
lengths_ok : (l : Rows) → lengths_good l ≡ true → LengthsOk l
unfolding lengths_good
lengths_ok l e =
    let m = asked l in
    let o = eqb (length l.outflow) m in
    let t = eqb (length l.storage) m in
    let f = both_right o (t && within 1 m most_rows) e in
    let rows = kept 1 m most_rows (both_right t (within 1 m most_rows) f) in
    record {
      out_long = eqb-true _ _ (both_left o (t && within 1 m most_rows) e);
      held_long = eqb-true _ _ (both_left t (within 1 m most_rows) f);
      least = rows.low;
      most = rows.high;
    }

-- 2 leaves a step within its limits
step_ok : (D : ℕ) → step_good D ≡ true → StepOk D
unfolding step_good
step_ok D e =
    let d = kept least_step D most_step (both_left (within least_step D most_step) (eqb (D % 2) 0) e) in
    record { least = d.low; most = d.high }

-- 20 leaves a sheet rule
rule_ok : (rule : ℕ) → rule_good rule ≡ true → RuleOk rule
unfolding rule_good
rule_ok rule e =
    let d = kept 1 rule 2 e in
    record { least = d.low; most = d.high }

pub last_ok : (first m : ℕ) → last_good first m ≡ true → first + m - 1 ≤ last_number
unfolding last_good
last_ok first m e = leb-true _ _ e

-- 1 and 2
pub frame_ok : (D : ℕ) (l : Rows) → AllPass (frame_lines D l) → LengthsOk l × StepOk D
frame_ok D l (one, (two, _)) = (lengths_ok l (charge_none Lengths _ 0 one), step_ok D (charge_none Step _ 0 two))

-- 1 to 5
pub run_ok : (x : Site) (l : Rows) → AllPass (run_lines x l) → RunOk x l
run_ok x l a =
    let g = x.setup in
    let ends = unless LastRow (last_good g.first (asked l)) ∷ unless Subareas (records_good x.subareas) ∷ [] in
    let p = both_pass (frame_lines g.step l) (unless SheetRule (rule_good g.rule) ∷ (rain_lines x.rain (asked l) ++ ends)) a in
    let q = both_pass (rain_lines x.rain (asked l)) ends p.1.1 in
    let frame = frame_ok g.step l p.0 in
    record {
      lengths = frame.0;
      step = frame.1;
      rule = rule_ok g.rule (charge_none SheetRule _ 0 p.1.0);
      few = entries_few x.rain (asked l) q.0;
      raining = rain_ok x.rain (asked l) q.0;
      rises = rises_ok x.rain (asked l) q.0;
      last = last_ok g.first (asked l) (charge_none LastRow _ 0 q.1.0);
      records = records_ok x.subareas (charge_none Subareas _ 0 q.1.1.0);
    }

-- half a step within its limits
pub half_ok : (D : ℕ) → StepOk D → HalfOk (D / 2)
half_ok D ok = record { least = omega (arith, ok.least); most = omega (arith, ok.most) }

-- 6 and 7 leave records within their limits
pub limits_ok : (rule : ℕ) (s : List ℕ) → AllPass (map (over_list s) (limit_tests rule)) → AllPatches s × AllSegments s
limits_ok rule s (six, (seven, _)) =
    (record { each = each_passes s Patches patches_pass six }, record { each = λ i h. segments_fit (record_at s i) rule (each_passes s Segments (segments_pass rule) seven i h) })

-- 6 to 11 leave a list within its limits
pub list_ok : (g : Setup) (s : List ℕ) → RecordsOk s → StepOk g.step → AllPass (list_lines g s) → ListOk g s
list_ok g s records step (six, (seven, (eight, (nine, (ten, (eleven, _)))))) =
    record {
      records = records;
      each = λ i h. record {
        whole = record_length s records i h;
        patched = each_passes s Patches patches_pass six i h;
        routed = segments_fit (record_at s i) g.rule (each_passes s Segments (segments_pass g.rule) seven i h);
        timed = timing_ok g.step (time_of (record_at s i)) step.least step.most (each_passes s Coarse (λ r. peak_good g.step (time_of r)) ten i h) (each_passes s Weights (λ r. weights_good g.step (time_of r)) eleven i h);
      };
      area = leb-true _ _ (charge_none Area (leb (all_area s) most_area) 0 eight);
    }

-- and sheet flow that runs no farther than the sheet rule lets it
pub sheets_ok : (g : Setup) (s : List ℕ) → AllPass (list_lines g s) → SheetsOk g s
sheets_ok g s (six, (seven, _)) = record { each = λ i h. sheets_fit (record_at s i) g.rule (each_passes s Segments (segments_pass g.rule) seven i h) }

-- 12 leaves a table within its limits
pub table_fits : (p : List ℕ) → unless PondTable (count_good p) ≡ none → first_of PondTable (first_bad p) ≡ none → TableOk p
table_fits p some twelve = table_ok p (charge_none PondTable (count_good p) 0 some) (first_none PondTable (first_bad p) twelve)

-- and 13 a pond
pub pond_fits : (h : ℕ) (p : List ℕ) → HalfOk h → AllPass (pond_lines h p) → PondOk h p
pond_fits h p half (some, (twelve, (thirteen, _))) =
    pond_ok half (table_fits p some twelve) (first_none PondHeld (first_short h p) thirteen)

-- 12, by the place that a table is refused at, then 13
table_line : (h : ℕ) (p : List ℕ) → or_else (first_at PondTable (table_place p)) (first_of PondHeld (first_short h p)) ≡ first_refusal (pond_lines h p)
table_line h p = go (count_good p) (first_bad p)
  where
    alone : (v : Line) → v ≡ first_refusal (v ∷ [])
    alone (Ok u) = refl
    alone (Err e) = refl

    go : (b : Bool) (o : Option ℕ) → or_else (first_at PondTable (pick b (row_place o) (Some 0))) (first_of PondHeld (first_short h p)) ≡ first_refusal (unless PondTable b ∷ first_of PondTable o ∷ first_of PondHeld (first_short h p) ∷ [])
    go true None = alone (first_of PondHeld (first_short h p))
    go true (Some i) = refl
    go false o = refl

pub table_goes : (h : ℕ) (p : List ℕ) → none ≡ first_at PondTable (table_place p) → first_of PondHeld (first_short h p) ≡ first_refusal (pond_lines h p)
table_goes h p q = (rw (← q) refl) ∙ table_line h p

-- 1 to 11 leave what the inflow rows need
pub basin_ok : (x : Site) (l : Rows) → AllPass (inflow_lines x l) → BasinOk x l
basin_ok x l a =
    let p = both_pass (run_lines x l) (list_lines x.setup x.subareas) a in
    let run = run_ok x l p.0 in
    record { run = run; list = list_ok x.setup x.subareas run.records run.step p.1 }

pub inflow_ready : (x : Site) (l : Rows) → first_refusal (inflow_lines x l) ≡ none → BasinOk x l
inflow_ready x l e = basin_ok x l (all_pass (inflow_lines x l) e)

-- 1 to 13 leave what a study works on
pub site_ok : (x : Site) (l : Rows) → AllPass (check_lines x l) → SiteOk x l
site_ok x l a =
    let h = half_of x.setup in
    let p = both_pass (inflow_lines x l) (pond_lines h x.pond) a in
    let basin = basin_ok x l p.0 in
    record { basin = basin; pond = pond_fits h x.pond (half_ok x.setup.step basin.run.step) p.1 }

pub study_ready : (x : Site) (l : Rows) → first_refusal (check_lines x l) ≡ none → SiteOk x l
study_ready x l e = site_ok x l (all_pass (check_lines x l) e)

-- what a function's `?` leaves, as its next call asks for it
run_left : (x : Site) (l : Rows) → none ≡ first_refusal (run_lines x l) → RunOk x l
run_left x l e = run_ok x l (all_pass (run_lines x l) (sym e))

pub step_left : (x : Site) (l : Rows) → none ≡ first_refusal (run_lines x l) → x.setup.step ≤ most_step
step_left x l e = (run_left x l e).step.most

pub records_left : (x : Site) (l : Rows) → none ≡ first_refusal (run_lines x l) → RecordsOk x.subareas
records_left x l e = (run_left x l e).records

pub half_left : (x : Site) (l : Rows) → none ≡ first_refusal (inflow_lines x l) → HalfOk (x.setup.step / 2)
half_left x l e = half_ok x.setup.step (inflow_ready x l (sym e)).run.step

pub patches_left : (rule : ℕ) (s : List ℕ) → none ≡ first_refusal (map (over_list s) (limit_tests rule)) → AllPatches s
patches_left rule s e = (limits_ok rule s (all_pass (map (over_list s) (limit_tests rule)) (sym e))).0

pub segments_left : (rule : ℕ) (s : List ℕ) → none ≡ first_refusal (map (over_list s) (limit_tests rule)) → AllSegments s
segments_left rule s e = (limits_ok rule s (all_pass (map (over_list s) (limit_tests rule)) (sym e))).1

pub time_fits : (r : List ℕ) → RoutedOk r → TimeOk (time_of r)
time_fits r ok = concentration_ok ok.fits

-- what its `?` returns of a list's front is what the whole list says
pub inflow_stops : (x : Site) (l : Rows) {e : Refusal Rule} → Err e ≡ first_refusal (run_lines x l) → Err e ≡ first_refusal (inflow_lines x l)
inflow_stops x l = stops (run_lines x l) (list_lines x.setup x.subareas)

pub study_stops : (g : Setup) (rain s p : List ℕ) (l : Rows) {e : Refusal Rule} → Err e ≡ first_refusal (inflow_lines (basin g rain s) l) → Err e ≡ first_refusal (check_lines (site g rain s p) l)
study_stops g rain s p l = stops (inflow_lines (basin g rain s) l) (pond_lines (half_of g) p)

-- and what its next call says is what the whole list says
pub study_goes : (g : Setup) (rain s p : List ℕ) (l : Rows) → none ≡ first_refusal (inflow_lines (basin g rain s) l) → first_refusal (pond_lines (half_of g) p) ≡ first_refusal (check_lines (site g rain s p) l)
study_goes g rain s p l = goes_on (inflow_lines (basin g rain s) l) (pond_lines (half_of g) p)
