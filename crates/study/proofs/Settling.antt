-- What refusal 14 decides, and where the checks 1 to 13 leave the answer to it. Assumes nothing.
use mathlib.Core.Path.{◌≡◌, refl, sym, ap, ◌∙◌}
use mathlib.Core.List.{List, [], ◌∷◌}
use Prim.Native.Nat.{ℕ}
use Rattle.std.specs.Prelude.{Ok, Err, Option, None}
use Rattle.pond.specs.PondRows.{empty}
use Rattle.rows.specs.Routing.{over_row}
use Rattle.refusals.specs.declared.Rule.{Rule}
use Rattle.refusals.specs.declared.Rule.TheVariants.{Over}
use Rattle.refusals.specs.declared.Refusal.{Refusal}
use Rattle.checks.specs.Site.{Site, Rows}
use Rattle.refusals.specs.Refusals.{none, first_of, first_refusal, after}
use Rattle.study.specs.Study.{over_check, over_of, figures_all, study_refusal, study_answer, study_rows}
use Rattle.checks.specs.Order.{check_lines}
use Rattle.study.specs.Needs.{over_answer, decided_answer, decided_rows}
use Rattle.refusals.proofs.Orders.{first_none, stops, goes_on, alone, refused_answer, refused_old, passed_answer, passed_new}

module _ (h : ℕ) (p vs : List ℕ) where
  -- where 14 is not refused, no row goes over
  pub over_passes : over_check h p vs ≡ none → over_row h p empty vs ≡ None
  unfolding over_check
  over_passes q = first_none Over (over_row h p empty vs) q

  module _ {over : Option ℕ} (is : over ≡ over_row h p empty vs) where
    -- 14 is of the row that goes over
    charged : first_of Over over ≡ over_check h p vs
    unfolding over_check
    charged = ap (first_of Over) is

    -- refused: the answer is 14 and the row, and every list is as it was
    pub over_told : (s : List ℕ) {e : Refusal Rule} → Err e ≡ first_of Over over → Err e ≡ over_answer h s p vs
    unfolding over_answer
    over_told s q = refused_answer (q ∙ charged) _

    pub over_left : (new old : Rows) {e : Refusal Rule} → Err e ≡ first_of Over over → old ≡ after (over_check h p vs) new old
    over_left new old q = refused_old (q ∙ charged) new old

    -- not refused: no row goes over
    pub under_row : none ≡ first_of Over over → over_row h p empty vs ≡ None
    under_row q = over_passes (sym (q ∙ charged))

    -- not refused: the answer is the figures, and the lists are written
    pub under_told : (s : List ℕ) → none ≡ first_of Over over → Ok (figures_all h s p vs) ≡ over_answer h s p vs
    unfolding over_answer
    under_told s q = passed_answer (q ∙ charged) _

    pub under_left : (new old : Rows) → none ≡ first_of Over over → new ≡ after (over_check h p vs) new old
    under_left new old q = passed_new (q ∙ charged) new old

module _ (x : Site) (l : Rows) where
  -- a check refuses: so does the study, and every list is as it was
  stops_study : {e : Refusal Rule} → Err e ≡ first_refusal (check_lines x l) → Err e ≡ study_refusal x l
  unfolding study_refusal
  stops_study q = stops (check_lines x l) (over_of x l ∷ []) q

  pub stopped_told : {e : Refusal Rule} → Err e ≡ first_refusal (check_lines x l) → Err e ≡ study_answer x l
  unfolding study_answer
  stopped_told q = refused_answer (stops_study q) _

  pub stopped_left : {e : Refusal Rule} → Err e ≡ first_refusal (check_lines x l) → l ≡ study_rows x l
  unfolding study_rows
  stopped_left q = refused_old (stops_study q) _ _

  -- none does: it is left to 14
  past : none ≡ first_refusal (check_lines x l) → over_of x l ≡ study_refusal x l
  unfolding study_refusal
  past q = sym (alone (over_of x l)) ∙ goes_on (check_lines x l) (over_of x l ∷ []) q

  pub decided : none ≡ first_refusal (check_lines x l) → (decided_answer x l ≡ study_answer x l) × (decided_rows x l ≡ study_rows x l)
  unfolding study_answer study_rows over_answer
  decided q = (rw (past q) refl, rw (past q) refl)
