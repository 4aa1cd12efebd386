-- The refusal of an edit's answer is the first line of `edit_lines`, docs/SCOPE.md's order, that refuses; an answer's refusal and values follow from it. Assumes nothing.
use mathlib.Core.Path.{◌≡◌, refl, ap, ◌∙◌}
use mathlib.Core.List.{List, ◌∷◌, ◌++◌}
use Prim.Native.Nat.{ℕ, ◌+◌, ◌<◌}
use native.Mathlib.Omega.{arith}
use lib.ListN.{length}
use Rattle.std.specs.Prelude.{Ok, Err}
use Rattle.checks.specs.Site.{Site, Rows}
use Rattle.refusals.specs.declared.Rule.TheVariants.{Place}
use Rattle.refusals.specs.Refusals.{Line, none, unless, answer, after, AllPass, First}
use Rattle.checks.specs.Order.{run_lines, list_lines, pond_lines}
use Rattle.subarea.specs.Records.{half_of}
use Rattle.refusals.proofs.Orders.{all_pass, both_pass, first_there}
use Rattle.checks.specs.Needs.{RuleOk, RisesOk, RunOk, SheetsOk}
use Rattle.checks.proofs.Ready.{run_ok, sheets_ok}
use Rattle.alter.specs.Altering.{altered, place_good}
use Rattle.edit.specs.Edit.{EditAnswer, row_lines, edit_lines, edit_refusal, edit_done, edit_answer, edit_refusal_in, edit_values_in, edit_nothing, edit_values}

module _ (x : Site) (l : Rows) (k : ℕ) (r : List ℕ) where
  -- refused: the refusal stands in docs/SCOPE.md's list, and every line before it passes
  pub edit_order : (edit_refusal x l k r ≡ none → ⊥) → First (edit_lines x l k r) (edit_refusal x l k r)
  unfolding edit_refusal
  edit_order n = first_there (edit_lines x l k r) n

  module _ (done : edit_refusal x l k r ≡ none) where
    -- accepted: every line passes
    pub edit_passes : AllPass (edit_lines x l k r)
    unfolding edit_refusal
    edit_passes = all_pass (edit_lines x l k r) done

    -- 6 to 11 on the list as it stands, then on the altered list, and what follows them
    abbrev stands : List Line
    stands = list_lines x.setup x.subareas

    abbrev alters : List Line
    alters = list_lines x.setup (altered x.subareas k r)

    abbrev after_lists : List Line
    after_lists = pond_lines (half_of x.setup) x.pond ++ row_lines x l k r

    parted : AllPass (run_lines x l) × AllPass (unless Place (place_good x.subareas k) ∷ (stands ++ (alters ++ after_lists)))
    parted = both_pass (run_lines x l) (unless Place (place_good x.subareas k) ∷ (stands ++ (alters ++ after_lists))) edit_passes

    lists : AllPass stands × AllPass (alters ++ after_lists)
    lists = both_pass stands (alters ++ after_lists) parted.1.1

    -- so each group passes
    pub run_passes : AllPass (run_lines x l)
    run_passes = parted.0

    pub list_passes : AllPass (list_lines x.setup x.subareas)
    list_passes = lists.0

    altered_passes : AllPass (list_lines x.setup (altered x.subareas k r))
    altered_passes = (both_pass alters after_lists lists.1).0

    pub pond_passes : AllPass (pond_lines (half_of x.setup) x.pond)
    pond_passes = (both_pass (pond_lines (half_of x.setup) x.pond) (row_lines x l k r) (both_pass alters after_lists lists.1).1).0

    -- lists of one length, and row numbers in their limit
    pub accepted : RunOk x l
    accepted = run_ok x l run_passes

    -- its sheet rule is 1 or 2, and no sheet of the list, nor of the altered list, runs farther than that one lets it
    pub edit_rule : RuleOk x.setup.rule
    edit_rule = accepted.rule

    pub edit_sheets : SheetsOk x.setup x.subareas × SheetsOk x.setup (altered x.subareas k r)
    edit_sheets = (sheets_ok x.setup x.subareas list_passes, sheets_ok x.setup (altered x.subareas k r) altered_passes)

    -- every row's number is below 9007199254740992
    pub edit_numbers : (i : ℕ) → i < length l.inflow → x.setup.first + i < 9007199254740992
    edit_numbers i h = omega (arith, accepted.last, h)

    -- no entry of its rain is more than 4,000 above the one before
    pub edit_rises : RisesOk x.rain
    edit_rises = accepted.rises

  -- the refusal in an answer is the edit's, or none when done
  pub edit_refusal_lem : edit_refusal_in (edit_answer x l k r) ≡ edit_refusal x l k r
  unfolding edit_answer
  edit_refusal_lem = go (edit_refusal x l k r)
    where
      go : (v : Line) → edit_refusal_in (answer v (edit_done x l k r)) ≡ v
      go (Ok u) = refl
      go (Err e) = refl

  -- its values are those of the edit, every one 0 when refused
  pub edit_values_lem : edit_values_in (edit_answer x l k r) ≡ edit_values x l k r
  unfolding edit_answer edit_values
  edit_values_lem = go (edit_refusal x l k r)
    where
      go : (v : Line) → edit_values_in (answer v (edit_done x l k r)) ≡ after v (edit_done x l k r) edit_nothing
      go (Ok u) = refl
      go (Err e) = refl

  -- so an answer that is this one has this refusal, and these values
  pub answer_is : {y : EditAnswer} → y ≡ edit_answer x l k r → (edit_refusal_in y ≡ edit_refusal x l k r) × (edit_values_in y ≡ edit_values x l k r)
  answer_is q = (ap edit_refusal_in q ∙ edit_refusal_lem, ap edit_values_in q ∙ edit_values_lem)
