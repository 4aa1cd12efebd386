-- Only what is read counts: lists of subareas that agree within the counts of each record are answered alike, whatever stands behind them and in spare numbers. Assumes nothing.
use mathlib.Core.Path.{◌≡◌, refl, sym, ap, ◌∙◌}
use mathlib.Core.Bool.{Bool, ◌&&◌}
use mathlib.Core.List.{List, [], ◌∷◌, ◌++◌, map}
use Prim.Native.Nat.{ℕ, ◌/◌}
use native.Mathlib.Omega.{arith}
use Rattle.laws.specs.Scan.{scan}
use Rattle.laws.specs.Sum.{sum_to}
use Rattle.laws.specs.Within.{within}
use Rattle.laws.proofs.Scans.{scan_same}
use Rattle.laws.proofs.Sums.{sum_same}
use Rattle.laws.proofs.Listed.{rows_same}
use Rattle.curve.specs.CurveNumbers.{most_patches, total_area, composite_tenths, patches_in, class_area, patches_good}
use Rattle.curve.specs.declared.Classes.{Classes}
use Rattle.travel.specs.TravelTime.{most_segments, time_to_peak, sheet_limit, segments_good}
use Rattle.travel.proofs.Spare.{segments_same, concentration_same}
use Rattle.hydrograph.specs.InflowRows.{part, concentration_good, peak_good, weights_good}
use Rattle.pond.specs.PondRows.{empty}
use Rattle.rows.specs.Routing.{outflows, storages}
use Rattle.rows.specs.Figures.{figures_of}
use Rattle.refusals.specs.declared.Rule.TheVariants.{Subareas}
use Rattle.refusals.specs.Refusals.{Line, unless, stopped, first_of, first_refusal, answer, after}
use Rattle.laws.proofs.Places.{search_scan}
use Rattle.laws.specs.Search.{first_bad_of}
use Rattle.subarea.specs.declared.Setup.{Setup}
use Rattle.subarea.specs.Records.{half_of, width, records_in, record_at, patch_count, patches, segment_count, segments, area_of, curve_tenths, time_of, peak_of, patches_pass, segments_pass, SameRecord, SameRead}
use Rattle.checks.specs.Site.{Site, Rows, asked, with_subareas}
use Rattle.checks.specs.Order.{ListTest, each, total, over_list, list_tests, list_lines, records_good, fore_lines, run_lines, pond_lines}
use Rattle.inflow.specs.Inflow.{part_of, inflow_at, inflow_rows, inflow_of}
use Rattle.study.specs.Study.{class_total, classes_all, figures_with, figures_all, routed, over_check, study_refusal, study_answer, study_rows}

-- what is told of a record depends only on what is read of it
module _ (r q : List ℕ) (same : SameRecord r q) where
  area_read : area_of r ≡ area_of q
  area_read = ap total_area same.patched

  time_read : time_of r ≡ time_of q
  time_read = concentration_same (segments r) (segments q) same.routed

  patches_read : patches_pass r ≡ patches_pass q
  unfolding patches_pass
  patches_read =
      ap (λ (n : ℕ). within 1 n most_patches && patches_good (patches r)) same.patch_counts
      ∙ ap (λ (p : List ℕ). within 1 (patch_count q) most_patches && patches_good p) same.patched

  segments_read : (rule : ℕ) → segments_pass rule r ≡ segments_pass rule q
  unfolding segments_pass
  segments_read rule =
      ap (λ (n : ℕ). within 1 n most_segments && segments_good (sheet_limit rule) (segments r)) same.segment_counts
      ∙ ap (λ (good : Bool). within 1 (segment_count q) most_segments && good) (segments_same (segments r) (segments q) same.routed (sheet_limit rule))

  pub part_read : (g : Setup) (rain : List ℕ) (k : ℕ) → part_of g rain r k ≡ part_of g rain q k
  part_read g rain k =
      ap (λ (p : List ℕ). part (composite_tenths p) (total_area p) (peak_of g r) g.step rain k) same.patched
      ∙ ap (λ (t : ℕ). part (curve_tenths q) (area_of q) (time_to_peak g.step t) g.step rain k) time_read

-- a test that depends only on that
abbrev Reads : ListTest → Type 0
Reads (each n good) = (r q : List ℕ) → SameRecord r q → good r ≡ good q
Reads (total n good) = Unit {0}

abbrev AllRead : List ListTest → Type 0
AllRead [] = Unit {0}
AllRead (t ∷ ts) = Reads t × AllRead ts

-- 6 to 11 do
tests_read : (g : Setup) → AllRead (list_tests g)
tests_read g =
    let timed : (test : ℕ → Bool) (r q : List ℕ) → SameRecord r q → test (time_of r) ≡ test (time_of q) = λ test r q d. ap test (time_read r q d) in
    (patches_read, ((λ r q d. segments_read r q d g.rule), (tt, (timed concentration_good, (timed (peak_good g.step), (timed (weights_good g.step), tt))))))

module _ (s u : List ℕ) (same : SameRead s u) where
  pub count_read : records_in s ≡ records_in u
  count_read = ap (λ (n : ℕ). n / width) same.long

  -- a sum over the records, a scan of them
  sum_read : (f : List ℕ → ℕ) → ((r q : List ℕ) → SameRecord r q → f r ≡ f q) → sum_to (λ i. f (record_at s i)) (records_in s) ≡ sum_to (λ i. f (record_at u i)) (records_in u)
  sum_read f h =
      sum_same (λ i. f (record_at s i)) (λ i. f (record_at u i)) (records_in s) (λ i l. h (record_at s i) (record_at u i) (same.each i l))
      ∙ ap (λ (n : ℕ). sum_to (λ i. f (record_at u i)) n) count_read

  scan_read : (f : List ℕ → Bool) → ((r q : List ℕ) → SameRecord r q → f r ≡ f q) → scan (λ i. f (record_at s i)) (records_in s) 0 ≡ scan (λ i. f (record_at u i)) (records_in u) 0
  scan_read f h =
      scan_same (λ i. f (record_at s i)) (λ i. f (record_at u i)) (records_in s) 0 (λ i lo l. h (record_at s i) (record_at u i) (same.each i (omega (arith, l))))
      ∙ ap (λ (n : ℕ). scan (λ i. f (record_at u i)) n 0) count_read

  -- 5, and 6 to 11
  records_read : records_good s ≡ records_good u
  unfolding records_good
  records_read = rw same.long

  search_read : (f : List ℕ → Bool) → ((r q : List ℕ) → SameRecord r q → f r ≡ f q) → first_bad_of (λ i. f (record_at s i)) (records_in s) ≡ first_bad_of (λ i. f (record_at u i)) (records_in u)
  search_read f h =
      search_scan (λ i. f (record_at s i)) (records_in s)
      ∙ ap (λ (k : ℕ). stopped k (records_in s)) (scan_read f h)
      ∙ ap (λ (n : ℕ). stopped (scan (λ i. f (record_at u i)) (records_in u) 0) n) count_read
      ∙ sym (search_scan (λ i. f (record_at u i)) (records_in u))

  test_read : (t : ListTest) → Reads t → over_list s t ≡ over_list u t
  test_read (each n good) h = ap (first_of n) (search_read good h)
  test_read (total n good) h = ap (λ (a : ℕ). unless n (good a)) (sum_read area_of area_read)

  over_read : (ts : List ListTest) → AllRead ts → map (over_list s) ts ≡ map (over_list u) ts
  over_read [] h = refl
  over_read (t ∷ ts) h = rw (test_read t h.0, over_read ts h.1)

  pub lines_read : (g : Setup) → list_lines g s ≡ list_lines g u
  lines_read g = over_read (list_tests g) (tests_read g)

  -- the inflow rows, the class areas
  pub inflow_read : (g : Setup) (rain : List ℕ) (m : ℕ) → inflow_rows g rain s m ≡ inflow_rows g rain u m
  inflow_read g rain m =
      rows_same (inflow_at g rain s) (inflow_at g rain u) 1 m (λ k. sum_read (λ r. part_of g rain r k) (λ r q d. part_read r q d g rain k))

  class_read : (class : ℕ) → class_total s class ≡ class_total u class
  class_read class =
      sum_read (λ r. class_area (patches r) (patches_in (patches r)) class) (λ r q d. ap (λ (p : List ℕ). class_area p (patches_in p) class) d.patched)

  pub classes_read : classes_all s ≡ classes_all u
  classes_read = cc (class_read 1, class_read 2, class_read 3, class_read 4)

module _ (x : Site) (l : Rows) (u : List ℕ) (same : SameRead x.subareas u) where
  abbrev h : ℕ
  h = half_of x.setup

  -- 1 to 5
  pub run_read : run_lines x l ≡ run_lines (with_subareas x u) l
  run_read =
      ap (λ (b : Bool). fore_lines x.setup x.rain l ++ (unless Subareas b ∷ [])) (records_read x.subareas u same)

  rows_read : inflow_of x l ≡ inflow_of (with_subareas x u) l
  rows_read = inflow_read x.subareas u same x.setup x.rain (asked l)

  pub refusal_read : study_refusal x l ≡ study_refusal (with_subareas x u) l
  unfolding study_refusal
  refusal_read =
      let ponds = pond_lines h x.pond in
      ap (λ (run : List Line). first_refusal ((run ++ list_lines x.setup x.subareas) ++ ponds ++ (over_check h x.pond (inflow_of x l) ∷ []))) run_read
      ∙ ap (λ (list : List Line). first_refusal ((run_lines (with_subareas x u) l ++ list) ++ ponds ++ (over_check h x.pond (inflow_of x l) ∷ []))) (lines_read x.subareas u same x.setup)
      ∙ ap (λ (vs : List ℕ). first_refusal ((run_lines (with_subareas x u) l ++ list_lines x.setup u) ++ ponds ++ (over_check h x.pond vs ∷ []))) rows_read

  -- a study answers and leaves the same
  pub study_read : study_answer x l ≡ study_answer (with_subareas x u) l
  unfolding study_answer
  study_read =
      let new = study_refusal (with_subareas x u) l in
      let ws = inflow_of (with_subareas x u) l in
      ap (λ (v : Line). answer v (figures_all h x.subareas x.pond (inflow_of x l))) refusal_read
      ∙ ap (λ (vs : List ℕ). answer new (figures_all h x.subareas x.pond vs)) rows_read
      ∙ ap (λ (c : Classes). answer new (figures_with c (figures_of h x.pond ws (outflows h x.pond empty ws) (storages h x.pond empty ws)))) (classes_read x.subareas u same)

  pub study_rows_read : study_rows x l ≡ study_rows (with_subareas x u) l
  unfolding study_rows
  study_rows_read =
      ap (λ (v : Line). after v (routed h x.pond (inflow_of x l)) l) refusal_read
      ∙ ap (λ (vs : List ℕ). after (study_refusal (with_subareas x u) l) (routed h x.pond vs) l) rows_read
