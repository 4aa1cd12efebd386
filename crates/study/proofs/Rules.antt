-- The sheet rule decides what is refused, and nothing else: a study that two rules accept answers and leaves the same by both. Assumes nothing.
use mathlib.Core.Path.{◌≡◌, sym, ◌∙◌}
use Prim.Native.Nat.{ℕ}
use Rattle.refusals.specs.Refusals.{none}
use Rattle.refusals.proofs.Orders.{passed_answer, none_new}
use Rattle.checks.specs.Site.{Site, Rows, with_rule}
use Rattle.study.specs.Study.{study_refusal, study_answer, study_rows}

module _ (x : Site) (l : Rows) (rule : ℕ) (done : study_refusal x l ≡ none) (also : study_refusal (with_rule x rule) l ≡ none) where
  pub answer_by_either : study_answer (with_rule x rule) l ≡ study_answer x l
  unfolding study_answer
  answer_by_either = sym (passed_answer (sym also) _) ∙ passed_answer (sym done) _

  pub rows_by_either : study_rows (with_rule x rule) l ≡ study_rows x l
  unfolding study_rows
  rows_by_either = sym (none_new (study_refusal (with_rule x rule) l) also _ _) ∙ none_new (study_refusal x l) done _ _
