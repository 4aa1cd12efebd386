-- The refusal of an answer is the first line of `study_lines`, docs/SCOPE.md's order, that refuses; row numbers and the balance of what a study leaves. Assumes nothing.
use mathlib.Core.Path.{◌≡◌, refl, ap, ◌∙◌, subst}
use mathlib.Core.List.{[], ◌∷◌}
use Prim.Native.Nat.{ℕ, ◌+◌, ◌<◌}
use native.Mathlib.Omega.{arith}
use Rattle.std.specs.Prelude.{Ok, Err}
use Rattle.laws.specs.Sum.{sum_to}
use Rattle.laws.proofs.Listed.{rows_length}
use Rattle.pond.specs.PondRows.{empty}
use Rattle.rows.specs.Figures.{at, release_at}
use Rattle.rows.proofs.Reached.{balance}
use Rattle.rows.proofs.Told.{over_none}
use Rattle.checks.specs.Needs.{RuleOk, RisesOk, SheetsOk, SiteOk}
use Rattle.refusals.specs.Refusals.{Line, none, answer, after, AllPass, First}
use Rattle.checks.specs.Site.{Site, Rows, asked}
use Rattle.study.specs.Study.{StudyAnswer, over_of, routed, study_lines, study_refusal, study_answer, study_rows, study_figures, study_refusal_in, study_values, study_values_in, no_figures}
use Rattle.checks.specs.Order.{run_lines, list_lines, pond_lines, inflow_lines, check_lines}
use Rattle.inflow.specs.Inflow.{inflow_at, inflow_of}
use Rattle.subarea.specs.Records.{half_of}
use Rattle.refusals.proofs.Orders.{all_pass, both_pass, first_there, none_new}
use Rattle.checks.proofs.Ready.{site_ok, sheets_ok}
use Rattle.study.proofs.Settling.{over_passes}

module _ (x : Site) (l : Rows) where
  -- refused: the refusal stands in docs/SCOPE.md's list, and every line before it passes
  pub study_order : (study_refusal x l ≡ none → ⊥) → First (study_lines x l) (study_refusal x l)
  unfolding study_refusal
  study_order n = first_there (study_lines x l) n

  module _ (done : study_refusal x l ≡ none) where
    -- accepted: every line passes
    pub study_passes : AllPass (study_lines x l)
    unfolding study_refusal
    study_passes = all_pass (study_lines x l) done

    -- so the site is one that a study works on
    accepted : SiteOk x l
    accepted = site_ok x l (both_pass (check_lines x l) (over_of x l ∷ []) study_passes).0

    -- every row's number is below 9007199254740992
    pub row_numbers : (k : ℕ) → k < asked l → x.setup.first + k < 9007199254740992
    row_numbers k h = omega (arith, accepted.basin.run.last)

    -- its sheet rule is 1 or 2, and no sheet of any subarea runs farther than that one lets it
    pub study_rule : RuleOk x.setup.rule
    study_rule = accepted.basin.run.rule

    pub study_sheets : SheetsOk x.setup x.subareas
    study_sheets =
        let lists = list_lines x.setup x.subareas in
        let ponds = pond_lines (half_of x.setup) x.pond in
        sheets_ok x.setup x.subareas (both_pass (run_lines x l) lists (both_pass (inflow_lines x l) ponds (both_pass (check_lines x l) (over_of x l ∷ []) study_passes).0).0).1

    -- no entry of its rain is more than 4,000 above the one before
    pub study_rises : RisesOk x.rain
    study_rises = accepted.basin.run.rises

    -- through every row of what a study leaves, all inflow is the water stored with the water released
    pub study_balance : (k : ℕ) → k < asked l
        → sum_to (at (study_rows x l).inflow) (k + 1) ≡ at (study_rows x l).storage k + sum_to (release_at (half_of x.setup) 0 (study_rows x l).outflow) (k + 1)
    unfolding study_rows study_refusal
    study_balance k h =
        let vs = inflow_of x l in
        let two = both_pass (check_lines x l) (over_of x l ∷ []) study_passes in
        let all = over_none (half_of x.setup) x.pond empty vs (over_passes (half_of x.setup) x.pond vs two.1.0) in
        subst
        (λ (z : Rows). sum_to (at z.inflow) (k + 1) ≡ at z.storage k + sum_to (release_at (half_of x.setup) 0 z.outflow) (k + 1))
        (none_new (study_refusal x l) done (routed (half_of x.setup) x.pond vs) l)
        (balance accepted.pond vs all k (omega (arith, rows_length (inflow_at x.setup x.rain x.subareas) 1 (asked l))))

  -- the refusal in an answer is the study's, or none when done
  pub study_refusal_lem : study_refusal_in (study_answer x l) ≡ study_refusal x l
  unfolding study_answer
  study_refusal_lem = go (study_refusal x l)
    where
      go : (v : Line) → study_refusal_in (answer v (study_figures x l)) ≡ v
      go (Ok u) = refl
      go (Err e) = refl

  -- its values are the figures, every one 0 when refused
  study_values_lem : study_values_in (study_answer x l) ≡ study_values x l
  unfolding study_answer study_values
  study_values_lem = go (study_refusal x l)
    where
      go : (v : Line) → study_values_in (answer v (study_figures x l)) ≡ after v (study_figures x l) no_figures
      go (Ok u) = refl
      go (Err e) = refl

  -- so an answer that is this one has this refusal, and these values
  pub study_told : (a : StudyAnswer) → a ≡ study_answer x l → (study_refusal_in a ≡ study_refusal x l) × (study_values_in a ≡ study_values x l)
  study_told a e = (ap study_refusal_in e ∙ study_refusal_lem, ap study_values_in e ∙ study_values_lem)
