-- What 1 to 5 and 15 leave, and what each question mark of the order of an edit leaves or returns. Assumes nothing.
use mathlib.Core.Path.{◌≡◌, refl, sym, ap, ◌∙◌, subst}
use mathlib.Core.List.{List, [], ◌∷◌, ◌++◌, map}
use Prim.Native.Nat.{ℕ, ◌/◌, ◌≤◌}
use lib.Dec.{leb}
use lib.ListN.{length}
use Rattle.laws.specs.Limits.{most_step, most_area}
use Rattle.laws.proofs.Tests.{kept}
use Rattle.std.specs.Prelude.{Err}
use Rattle.refusals.specs.declared.Rule.{Rule}
use Rattle.refusals.specs.declared.Rule.TheVariants.{Patches, Segments, Area, Place}
use Rattle.refusals.specs.declared.Refusal.{Refusal}
use Rattle.pond.specs.Needs.{HalfOk}
use Rattle.checks.specs.Site.{Site, Rows, basin, site}
use Rattle.subarea.specs.declared.Setup.{Setup}
use Rattle.subarea.specs.Records.{half_of, width, records_in}
use Rattle.subarea.specs.Needs.{RecordsOk, RoutedOk}
use Rattle.subarea.proofs.Subareas.{segments_fit}
use Rattle.refusals.specs.Refusals.{Line, none, unless, first_refusal, AllPass}
use Rattle.checks.specs.Order.{run_lines, limit_tests, timing_tests, list_lines, pond_lines}
use Rattle.refusals.proofs.Orders.{both_pass, pass_both, all_pass, charge_none, stops, goes_on, past}
use Rattle.checks.specs.Needs.{over_record, RunOk}
use Rattle.checks.proofs.Ready.{run_ok, half_ok, list_ok}
use Rattle.alter.specs.Altering.{altered, place_good, edit_check_lines}
use Rattle.alter.specs.Needs.{altered_area, fresh_lines, PlaceOk, PassedOk, GroundOk}
use Rattle.alter.proofs.OnlyFresh.{altered_lines}

-- 1 to 5 and 15
abbrev pub place_lines : Site → Rows → ℕ → List Line
place_lines x l k = run_lines x l ++ (unless Place (place_good x.subareas k) ∷ [])

-- leave a run within its limits, and a listed place
pub place_ready : (x : Site) (l : Rows) (k : ℕ) (r : List ℕ) → length r ≡ width → AllPass (place_lines x l k) → RunOk x l × PlaceOk x.subareas k r
unfolding place_good
place_ready x l k r w p =
    let two = both_pass (run_lines x l) (unless Place (place_good x.subareas k) ∷ []) p in
    let run = run_ok x l two.0 in
    let here = kept 1 k (records_in x.subareas) (charge_none Place (place_good x.subareas k) 0 two.1.0) in
    (run, record { records = run.records; listed = here.low; last = here.high; whole = w })

-- a line that passes leaves it to those after it, and one that refuses decides
line_past : {v : Line} (k : List Line) → none ≡ v → first_refusal k ≡ first_refusal (v ∷ k)
line_past {v} k e = past (v ∷ []) k (sym e, tt)

line_stops : {v : Line} {f : Refusal Rule} (k : List Line) → Err f ≡ v → Err f ≡ first_refusal (v ∷ k)
line_stops {v} {f} k e = subst (λ (u : Line). Err f ≡ first_refusal (u ∷ k)) e refl

module _ (g : Setup) (rain s p : List ℕ) (l : Rows) (k : ℕ) (r : List ℕ) where
  abbrev lists : List Line
  lists = list_lines g (altered s k r) ++ pond_lines (half_of g) p

  pub run_stops : {e : Refusal Rule} → Err e ≡ first_refusal (run_lines (basin g rain s) l) → Err e ≡ first_refusal (edit_check_lines (site g rain s p) l k r)
  run_stops = stops (run_lines (basin g rain s) l) (unless Place (place_good s k) ∷ (list_lines g s ++ lists))

  module _ (run : none ≡ first_refusal (run_lines (basin g rain s) l)) (place : none ≡ unless Place (place_good s k)) where
    fore : AllPass (place_lines (basin g rain s) l k)
    fore = pass_both (run_lines (basin g rain s) l) (unless Place (place_good s k) ∷ []) (all_pass (run_lines (basin g rain s) l) (sym run)) (sym place, tt)

    after_fore : first_refusal (list_lines g s ++ lists) ≡ first_refusal (edit_check_lines (site g rain s p) l k r)
    after_fore = past (place_lines (basin g rain s) l k) (list_lines g s ++ lists) fore

    pub list_left : length r ≡ width → (g.step ≤ most_step) × RecordsOk s
    list_left w = let run = (place_ready (basin g rain s) l k r w fore).0 in (run.step.most, run.records)

    pub list_stops : {e : Refusal Rule} → Err e ≡ first_refusal (list_lines g s) → Err e ≡ first_refusal (edit_check_lines (site g rain s p) l k r)
    list_stops e = stops (list_lines g s) lists e ∙ after_fore

    pub half_left : length r ≡ width → HalfOk (g.step / 2)
    half_left w = half_ok g.step (place_ready (basin g rain s) l k r w fore).0.step

    module _ (stood : none ≡ first_refusal (list_lines g s)) where
      pub altered_left : length r ≡ width → PlaceOk s k r × PassedOk g s
      altered_left w =
          let ok = place_ready (basin g rain s) l k r w fore in
          (ok.1, record { step = ok.0.step; none_refused = sym stood })

      after_list : first_refusal lists ≡ first_refusal (edit_check_lines (site g rain s p) l k r)
      after_list = goes_on (list_lines g s) lists stood ∙ after_fore

      pub altered_stops : {e : Refusal Rule} → Err e ≡ first_refusal (list_lines g (altered s k r)) → Err e ≡ first_refusal (edit_check_lines (site g rain s p) l k r)
      altered_stops e = stops (list_lines g (altered s k r)) (pond_lines (half_of g) p) e ∙ after_list

      pub pond_after : none ≡ first_refusal (list_lines g (altered s k r)) → first_refusal (pond_lines (half_of g) p) ≡ first_refusal (edit_check_lines (site g rain s p) l k r)
      pond_after e = goes_on (list_lines g (altered s k r)) (pond_lines (half_of g) p) e ∙ after_list

module _ (g : Setup) (s : List ℕ) (k : ℕ) (r : List ℕ) (ok : PlaceOk s k r × PassedOk g s) where
  -- 6 and 7, 8, and 9 to 11, of the fresh record
  abbrev limits : List Line
  limits = map (over_record r k) (limit_tests g.rule)

  abbrev area : Line
  area = unless Area (leb (altered_area s k r) most_area)

  abbrev times : List Line
  times = map (over_record r k) (timing_tests g)

  -- the list as it stands passes
  stood : AllPass (list_lines g s)
  stood = all_pass (list_lines g s) ok.1.none_refused

  -- so the lines of the altered list are those of the fresh record
  lines : first_refusal (fresh_lines g s k r) ≡ first_refusal (list_lines g (altered s k r))
  lines = ap first_refusal (sym (altered_lines s k r ok.0 g stood))

  pub limits_stops : {e : Refusal Rule} → Err e ≡ first_refusal (map (over_record r k) (limit_tests g.rule)) → Err e ≡ first_refusal (list_lines g (altered s k r))
  limits_stops e = stops limits (area ∷ times) e ∙ lines

  module _ (within : none ≡ first_refusal (map (over_record r k) (limit_tests g.rule))) where
    pub ground_left : GroundOk s k r
    ground_left =
        let list = list_ok g s ok.0.records ok.1.step stood in
        record { place = ok.0; patched = record { each = λ i l. (list.each i l).patched }; fresh = charge_none Patches _ k (all_pass limits (sym within)).0 }

    pub routed_left : RoutedOk r
    routed_left = segments_fit r g.rule (charge_none Segments _ k (all_pass limits (sym within)).1.0)

    pub area_stops : {e : Refusal Rule} → Err e ≡ unless Area (leb (altered_area s k r) most_area) → Err e ≡ first_refusal (list_lines g (altered s k r))
    area_stops e = line_stops times e ∙ goes_on limits (area ∷ times) within ∙ lines

    pub timing_after : none ≡ unless Area (leb (altered_area s k r) most_area) → first_refusal (map (over_record r k) (timing_tests g)) ≡ first_refusal (list_lines g (altered s k r))
    timing_after e = line_past times e ∙ goes_on limits (area ∷ times) within ∙ lines
