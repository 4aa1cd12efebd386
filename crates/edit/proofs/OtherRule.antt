-- Rows of one sheet rule, edited by another: that the two are one is a premise of demand 3, and an edit cannot see it; where such an edit is done, it is a new study by its own rule all the same. Assumes nothing.
use mathlib.Core.Path.{◌≡◌, sym, ◌∙◌, subst}
use mathlib.Core.List.{List, [], ◌∷◌}
use Prim.Native.Nat.{ℕ, ◌≤◌}
use lib.ListN.{length}
use Rattle.refusals.proofs.Orders.{both_pass, pass_both, pass_none, passed_answer}
use Rattle.subarea.specs.Records.{width, records_in, half_of}
use Rattle.checks.specs.Site.{Site, Rows, with_rule}
use Rattle.checks.specs.Order.{run_lines, list_lines, pond_lines, inflow_lines, check_lines}
use Rattle.refusals.specs.Refusals.{none}
use Rattle.study.specs.Study.{over_of, study_lines, study_refusal, study_answer, study_rows, study_figures}
use Rattle.study.proofs.Order.{study_passes}
use Rattle.study.proofs.Rules.{rows_by_either}
use Rattle.edit.specs.Edit.{edit_refusal}
use Rattle.edit.specs.Standing.{Standing, studied, EditIsStudy}
use Rattle.edit.proofs.Order.{run_passes, list_passes, pond_passes}
use Rattle.edit.proofs.EditIsStudy.{chain, edit_is_study}

module _ {x : Site} {l : Rows} (so : Standing x l) (rule k : ℕ) (r : List ℕ) where
  abbrev y : Site
  y = with_rule x rule

  module _ (done : edit_refusal y l k r ≡ none) where
    -- 1 to 13 pass by that rule, and 14 does as it did
    study_too : study_refusal y l ≡ none
    unfolding study_refusal
    study_too =
        let inflow = pass_both (run_lines y l) (list_lines y.setup y.subareas) (run_passes y l k r done) (list_passes y l k r done) in
        let checks = pass_both (inflow_lines y l) (pond_lines (half_of y.setup) y.pond) inflow (pond_passes y l k r done) in
        let over = (both_pass (check_lines x l) (over_of x l ∷ []) (study_passes x l (chain so).done)).1 in
        pass_none (study_lines y l) (pass_both (check_lines y l) (over_of y l ∷ []) checks over)

    -- so the rows stand on the site by that rule
    pub stand_by : Standing y l
    unfolding study_answer
    stand_by =
        let answer = sym (passed_answer (sym study_too) (study_figures y l)) in
        let rows : study_rows y l ≡ l = rows_by_either x l rule (chain so).done study_too ∙ sym (chain so).rows in
        subst (λ (z : Rows). Standing y z) rows (studied y l (study_figures y l) answer)

    -- and the edit is a study by it
    pub other_rule : 1 ≤ k → k ≤ records_in x.subareas → length r ≡ width → EditIsStudy y l k r
    other_rule lo hi w = edit_is_study stand_by k lo hi r w
