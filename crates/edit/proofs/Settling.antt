-- What each group of an edit's refusals decides, and where it leaves the answer to the next: the checks up to 13, 16 and 17, and 14. Assumes nothing.
use mathlib.Core.Path.{◌≡◌, sym, ◌∙◌}
use mathlib.Core.List.{List, [], ◌∷◌}
use Prim.Native.Nat.{ℕ}
use Rattle.std.specs.Prelude.{Err}
use Rattle.curve.specs.declared.Classes.{Classes}
use Rattle.refusals.specs.declared.Rule.{Rule}
use Rattle.refusals.specs.declared.Refusal.{Refusal}
use Rattle.checks.specs.Site.{Site, Rows}
use Rattle.checks.specs.Order.{forged_line}
use Rattle.refusals.specs.Refusals.{Line, none, first_refusal}
use Rattle.subarea.specs.Records.{half_of}
use Rattle.study.specs.Study.{classes_all}
use Rattle.refusals.proofs.Orders.{stops, goes_on, alone, refused_answer, refused_old}
use Rattle.alter.specs.Altering.{altered, new_inflow_of, edit_check_lines}
use Rattle.edit.specs.Edit.{EditAnswer, unfit_of, over_from, row_lines, edit_refusal, new_rows, edit_done, edit_answer, edit_rows}
use Rattle.edit.specs.Needs.{found_lines, settled_from, settled_rows_from, rows_refusal, refitted, refitted_rows}

module _ (x : Site) (l : Rows) (k : ℕ) (r : List ℕ) where
  abbrev fourteen : Line
  fourteen = over_from (half_of x.setup) x.pond l (new_inflow_of x l k r)

  -- 16 or 17 refuses: so does the edit, and every list is as it was
  pub rows_stop : {e : Refusal Rule} → Err e ≡ first_refusal (found_lines x l k) → (Err e ≡ refitted x l k r) × (l ≡ refitted_rows x l k r)
  unfolding refitted refitted_rows rows_refusal
  rows_stop e =
      let q = stops (found_lines x l k) (fourteen ∷ []) e in
      (refused_answer q (edit_done x l k r), refused_old q (new_rows x l k r) l)

  -- 16 refuses, or passes and 17 does, or neither does
  pub unfit_stops : {e : Refusal Rule} → Err e ≡ unfit_of x l k → Err e ≡ first_refusal (found_lines x l k)
  unfit_stops e = rw (← e)

  pub forged_stops : {e : Refusal Rule} → none ≡ unfit_of x l k → Err e ≡ forged_line (half_of x.setup) x.pond l → Err e ≡ first_refusal (found_lines x l k)
  forged_stops u e = rw (← u, ← e)

  pub found_passes : none ≡ unfit_of x l k → none ≡ forged_line (half_of x.setup) x.pond l → none ≡ first_refusal (found_lines x l k)
  found_passes u e = rw (← u, ← e)

  module _ (e : none ≡ first_refusal (found_lines x l k)) where
    -- it is left to 14
    left_to_14 : rows_refusal x l k r ≡ fourteen
    unfolding rows_refusal
    left_to_14 = sym (goes_on (found_lines x l k) (fourteen ∷ []) e) ∙ alone fourteen

    -- so it is what 14 leaves, of class areas and new inflow rows that are those of the altered list
    pub rows_pass : {c : Classes} → c ≡ classes_all (altered x.subareas k r) → {ws : List ℕ} → ws ≡ new_inflow_of x l k r → {y : EditAnswer} {n : Rows}
        → y ≡ settled_from (half_of x.setup) c x.pond l ws → n ≡ settled_rows_from (half_of x.setup) x.pond l ws → (y ≡ refitted x l k r) × (n ≡ refitted_rows x l k r)
    unfolding refitted refitted_rows settled_from
    rows_pass ce we p q = ((rw (ce, we) at p) ∙ rw left_to_14, (rw we at q) ∙ rw left_to_14)

  -- a check up to 13 refuses: so does the edit, and every list is as it was
  pub checks_stop : {e : Refusal Rule} → Err e ≡ first_refusal (edit_check_lines x l k r) → (Err e ≡ edit_answer x l k r) × (l ≡ edit_rows x l k r)
  unfolding edit_answer edit_rows edit_refusal
  checks_stop e =
      let q = stops (edit_check_lines x l k r) (row_lines x l k r) e in
      (refused_answer q (edit_done x l k r), refused_old q (new_rows x l k r) l)

  module _ (e : none ≡ first_refusal (edit_check_lines x l k r)) where
    -- it is left to the rows
    left_to_rows : edit_refusal x l k r ≡ rows_refusal x l k r
    unfolding edit_refusal rows_refusal
    left_to_rows = sym (goes_on (edit_check_lines x l k r) (row_lines x l k r) e)

    pub checks_pass : (refitted x l k r ≡ edit_answer x l k r) × (refitted_rows x l k r ≡ edit_rows x l k r)
    unfolding edit_answer edit_rows refitted refitted_rows
    checks_pass = (rw left_to_rows, rw left_to_rows)
