-- What contracts ask of an edit's parts, what is left after each group of checks, and proofs use; no rule of docs/SCOPE.md is here.
use Rattle.std.specs.Prelude.{List, [], ◌∷◌, ℕ, ◌≤◌}
use Rattle.curve.specs.declared.Classes.{Classes}
use Rattle.laws.specs.Limits.{most_area}
use Rattle.checks.specs.Site.{Site, Rows}
use Rattle.subarea.specs.Records.{half_of, area_of}
use Rattle.refusals.specs.Refusals.{Line, first_refusal, answer, after}
use Rattle.checks.specs.Order.{forged_line}
use Rattle.checks.specs.Needs.{RecordOk, SiteOk}
use Rattle.alter.specs.Needs.{PlaceOk}
use Rattle.rewrite.specs.Rewriting.{rerouted, edited_of}
use Rattle.edit.specs.Edit.{EditAnswer, unfit_of, over_from, row_lines, new_rows, edit_done}

-- 16 and 17 of an edit
abbrev pub found_lines : Site → Rows → ℕ → List Line
found_lines x l k = unfit_of x l k ∷ forged_line (half_of x.setup) x.pond l ∷ []

-- what 14 leaves of the answer and the rows
unfoldable pub settled_from : ℕ → Classes → List ℕ → Rows → List ℕ → EditAnswer
settled_from h c p l ws = answer (over_from h p l ws) (edited_of h c p l (rerouted h p l ws))

abbrev pub settled_rows_from : ℕ → List ℕ → Rows → List ℕ → Rows
settled_rows_from h p l ws = after (over_from h p l ws) (rerouted h p l ws) l

-- what 16, 17 and 14 leave
unfoldable pub rows_refusal : Site → Rows → ℕ → List ℕ → Line
rows_refusal x l k r = first_refusal (row_lines x l k r)

unfoldable pub refitted : Site → Rows → ℕ → List ℕ → EditAnswer
refitted x l k r = answer (rows_refusal x l k r) (edit_done x l k r)

unfoldable pub refitted_rows : Site → Rows → ℕ → List ℕ → Rows
refitted_rows x l k r = after (rows_refusal x l k r) (new_rows x l k r) l

-- what the checks before 16 leave
pub record EditOk (x : Site) (l : Rows) (k : ℕ) (r : List ℕ) : Type 0 where
  pub work : SiteOk x l
  pub place : PlaceOk x.subareas k r
  pub fresh : RecordOk x.setup r
  pub area : area_of r ≤ most_area
