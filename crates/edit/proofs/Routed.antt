-- An edit of the rows of a done study is a study of the altered site. Assumes nothing.
use mathlib.Core.Path.{◌≡◌, refl, sym, ap, ◌∙◌, subst}
use mathlib.Core.Logic.{⊎_elim}
use mathlib.Core.List.{List, [], ◌∷◌, ◌++◌}
use Prim.Native.Nat.{ℕ, ◌+◌, ◌≤◌, ◌<◌}
use native.Mathlib.Omega.{arith}
use borrow.Author.Tests.{lt-ltb, le-ltb}
use lib.ListN.{length, take, drop, take-append-drop, length-drop}
use lib.Seq.{length-take-le}
use Rattle.std.specs.Prelude.{Ok, Err}
use Rattle.laws.proofs.Num.{below_or_not}
use Rattle.laws.proofs.Tests.{keeps}
use Rattle.pond.specs.PondRows.{empty}
use Rattle.pond.specs.declared.State.{State}
use Rattle.rows.specs.Routing.{end_of, outflow_of, storage_of, outflows, storages, passed, over_row, state_before}
use Rattle.rows.proofs.Prefix.{passed_append, passed_take}
use Rattle.rows.proofs.Columns.{before_is, edit_is_new}
use Rattle.rows.proofs.Told.{over_none, routed_pass}
use Rattle.refusals.specs.declared.Rule.TheVariants.{Place}
use Rattle.checks.specs.Site.{Site, Rows}
use Rattle.subarea.specs.Records.{width, records_in, half_of}
use Rattle.refusals.specs.Refusals.{Line, none, unless, first_refusal, answer, after, AllPass}
use Rattle.checks.specs.Order.{records_good, run_lines, list_lines, pond_lines, check_lines, forged_line}
use Rattle.study.specs.Study.{over_check, over_of, study_refusal, study_answer, study_rows, classes_all, figures_with, figures_all, routed}
use Rattle.inflow.specs.Inflow.{inflow_at, inflow_of}
use Rattle.checks.specs.Needs.{SiteOk}
use Rattle.refusals.proofs.Orders.{both_pass, none_new, past, skipped}
use Rattle.checks.proofs.Ready.{site_ok}
use Rattle.study.proofs.Order.{study_passes}
use Rattle.study.proofs.Settling.{over_passes}
use Rattle.alter.specs.Altering.{altered, altered_site, new_inflow, new_inflow_of, first_changed, place_good}
use Rattle.alter.specs.Needs.{PlaceOk}
use Rattle.alter.proofs.Places.{altered_length}
use Rattle.alter.proofs.Swapping.{new_is}
use Rattle.laws.specs.Limits.{most_rows}
use Rattle.laws.proofs.Listed.{rows_length}
use Rattle.rewrite.specs.Rewriting.{rerouted, figures_in, edited_of}
use Rattle.edit.specs.Edit.{unfit_of, over_from, edit_refusal, new_rows, edit_done, edit_answer, edit_rows}
use Rattle.edit.specs.Standing.{study_in, Studied, EditIsStudy}
use Rattle.rewrite.proofs.Changed.{rows_equal, changed_most, changed_front}
use Rattle.edit.proofs.Fitting.{fit_all}

-- 14 of rows that begin as rows that all pass: from the first changed row on it is what it is from the start
module _ (h : ℕ) (p vs ws : List ℕ) (all : passed h p empty vs ≡ length vs) (long : length ws ≡ length vs) where
  abbrev a : ℕ
  a = first_changed vs ws

  abbrev st : State
  st = state_before (outflows h p empty vs) (storages h p empty vs) (first_changed vs ws)

  reached : st ≡ end_of h p empty (take a ws)
  reached = before_is h p a vs (changed_most vs ws) ∙ ap (end_of h p empty) (changed_front vs ws long)

  front_passes : passed h p empty (take a ws) ≡ length (take a ws)
  front_passes = ap (passed h p empty) (sym (changed_front vs ws long)) ∙ passed_take h p empty a vs all ∙ ap length (changed_front vs ws long)

  passed_from : passed h p empty ws ≡ a + passed h p st (drop a ws)
  passed_from =
      ap (passed h p empty) (sym (take-append-drop a ws))
      ∙ passed_append h p empty (take a ws) (drop a ws) front_passes
      ∙ omega (arith, length-take-le a ws (omega (arith, long, changed_most vs ws)), ap (λ (z : State). passed h p z (drop a ws)) reached)

  over_from_lem : over_from h p (routed h p vs) ws ≡ over_check h p ws
  unfolding over_from over_check over_row
  over_from_lem =
      ⊎_elim
      (λ (l : passed h p st (drop a ws) < length (drop a ws)).
      rw (lt-ltb (passed h p st (drop a ws)) (length (drop a ws)) l, lt-ltb (passed h p empty ws) (length ws) (omega (arith, l, passed_from, length-drop a ws)), passed_from))
      (λ (l : length (drop a ws) ≤ passed h p st (drop a ws)).
      rw (le-ltb (passed h p st (drop a ws)) (length (drop a ws)) l, le-ltb (passed h p empty ws) (length ws) (omega (arith, l, passed_from, length-drop a ws, long, changed_most vs ws))))
      (below_or_not (passed h p st (drop a ws)) (length (drop a ws)))

module _ (x : Site) (l : Rows) (so : Studied x l) where
  abbrev h : ℕ
  h = half_of x.setup

  abbrev p : List ℕ
  p = x.pond

  abbrev vs : List ℕ
  vs = inflow_of x l

  -- the rows are routed from the site's inflow rows
  rows_are : l ≡ routed (half_of x.setup) x.pond (inflow_of x l)
  unfolding study_rows
  rows_are = so.rows ∙ sym (none_new (study_refusal x l) so.done (routed (half_of x.setup) x.pond (inflow_of x l)) l)

  two : AllPass (check_lines x l) × AllPass (over_of x l ∷ [])
  two = both_pass (check_lines x l) (over_of x l ∷ []) (study_passes x l so.done)

  ready : SiteOk x l
  ready = site_ok x l two.0

  all_in : passed h p empty vs ≡ length vs
  all_in = over_none h p empty vs (over_passes h p vs two.1.0)

  module _ (k : ℕ) (r : List ℕ) (listed : 1 ≤ k) (last : k ≤ records_in x.subareas) (whole : length r ≡ width) where
    place : PlaceOk x.subareas k r
    place = record { records = ready.basin.list.records; listed = listed; last = last; whole = whole }

    abbrev new : Site
    new = altered_site x k r

    abbrev ws : List ℕ
    ws = new_inflow_of x l k r

    -- the new inflow rows are the altered site's
    ws_are : new_inflow x k r (inflow_of x l) ≡ inflow_of (altered_site x k r) l
    ws_are = new_is x k r (length l.inflow) place

    ws_is : new_inflow_of x l k r ≡ inflow_of (altered_site x k r) l
    ws_is = ap (λ (z : Rows). new_inflow x k r z.inflow) rows_are ∙ ws_are

    ws_long : length ws ≡ length vs
    ws_long =
        ap length ws_is
        ∙ rows_length (inflow_at x.setup x.rain (altered x.subareas k r)) 1 (length l.inflow)
        ∙ sym (rows_length (inflow_at x.setup x.rain x.subareas) 1 (length l.inflow))

    -- 5 counts as many records
    run_same : run_lines x l ≡ run_lines new l
    unfolding records_good
    run_same = rw (altered_length x.subareas k r place)

    listed_passes : unless Place (place_good x.subareas k) ≡ none
    unfolding place_good
    listed_passes = ap (unless Place) (keeps 1 k (records_in x.subareas) listed last)

    sixteen : unfit_of x l k ≡ none
    sixteen =
        ap (λ (z : Rows). unfit_of x z k) rows_are
        ∙ rw (fit_all x k r (length l.inflow) place ready.basin.run.raining ready.basin.list, le-ltb (length vs) (length vs) (omega arith))

    seventeen : forged_line (half_of x.setup) x.pond l ≡ none
    seventeen =
        let few : length vs ≤ most_rows = omega (arith, rows_length (inflow_at x.setup x.rain x.subareas) 1 (length l.inflow), ready.basin.run.lengths.most) in
        ap (λ (z : Rows). forged_line (half_of x.setup) x.pond z) rows_are ∙ rw (routed_pass ready.pond vs all_in few)

    fourteen : over_from h p l ws ≡ over_of new l
    fourteen = ap (λ (z : Rows). over_from h p z ws) rows_are ∙ over_from_lem h p vs ws all_in ws_long ∙ ap (over_check h p) ws_is

    -- the first refusal of the edit is that of a study of the altered site
    refusal_same : edit_refusal x l k r ≡ study_refusal new l
    unfolding edit_refusal study_refusal
    refusal_same =
        let stands = list_lines x.setup x.subareas in
        let mid = list_lines x.setup (altered x.subareas k r) ++ pond_lines (half_of x.setup) p in
        let run = both_pass (run_lines x l) (stands ++ pond_lines (half_of x.setup) p) two.0 in
        sym (past (run_lines x l) _ run.0)
        ∙ sym (past (unless Place (place_good x.subareas k) ∷ []) _ (listed_passes, tt))
        ∙ sym (past stands _ (both_pass stands (pond_lines (half_of x.setup) p) run.1).0)
        ∙ ap (λ (z : Line). first_refusal (mid ++ (z ∷ forged_line (half_of x.setup) x.pond l ∷ over_from h p l ws ∷ []))) sixteen
        ∙ ap (λ (z : Line). first_refusal (mid ++ (none ∷ z ∷ over_from h p l ws ∷ []))) seventeen
        ∙ ap (λ (z : Line). first_refusal (mid ++ (none ∷ none ∷ z ∷ []))) fourteen
        ∙ skipped mid (none ∷ over_of new l ∷ [])
        ∙ skipped mid (over_of new l ∷ [])
        ∙ past (run_lines new l) _ (subst (λ (z : List Line). AllPass z) run_same run.0)

    -- and where nothing is refused, its rows are that study's
    rows_same : new_rows x l k r ≡ routed h p (inflow_of new l)
    rows_same =
        let n = routed h p vs in
        let front = changed_front vs ws ws_long in
        ap (λ (z : Rows). rerouted h p z ws) rows_are
        ∙ rows_equal {a = rerouted h p n ws} {b = routed h p (inflow_of new l)}
        ws_is
        (edit_is_new h p outflow_of (first_changed vs ws) vs ws (changed_most vs ws) front ∙ ap (outflows h p empty) ws_is)
        (edit_is_new h p storage_of (first_changed vs ws) vs ws (changed_most vs ws) front ∙ ap (storages h p empty) ws_is)

    pub edit_of : EditIsStudy x l k r
    unfolding edit_answer edit_rows study_answer study_rows edited_of
    edit_of =
        record {
          answers = rw refusal_same (go (study_refusal new l));
          rows = rw refusal_same (ap (λ (n : Rows). after (study_refusal new l) n l) rows_same);
        }
      where
        go : (v : Line) → study_in (answer v (edit_done x l k r)) ≡ answer v (figures_all h (altered x.subareas k r) p (inflow_of new l))
        go (Ok u) = ap (λ (n : Rows). Ok (figures_with (classes_all (altered x.subareas k r)) (figures_in h p n))) rows_same
        go (Err e) = refl
