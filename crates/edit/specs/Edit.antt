-- docs/SCOPE.md, an edit: refusals 16, 17 and 14, the order of all, what an edit answers, and the rows that it leaves.
-- Letters as in alter's definitions.
use Rattle.std.specs.Prelude.{List, [], ◌∷◌, ◌++◌, ℕ, ◌+◌, pos, length, drop, ⊤, Result, Ok, Err, Option, None, Some}
use Rattle.rows.specs.Routing.{over_row, state_before}
use Rattle.refusals.specs.declared.Rule.{Rule}
use Rattle.refusals.specs.declared.Rule.TheVariants.{Over, InflowRow}
use Rattle.refusals.specs.declared.Refusal.{Refusal}
use Rattle.checks.specs.Site.{Site, Rows}
use Rattle.refusals.specs.Refusals.{Line, stopped, first_of, first_refusal, answer, after}
use Rattle.subarea.specs.Records.{half_of}
use Rattle.checks.specs.Order.{forged_line}
use Rattle.study.specs.Study.{classes_all, no_figures}
use Rattle.alter.specs.Altering.{altered, old_part, new_inflow_of, first_changed, edit_check_lines}
use Rattle.fitting.specs.Fits.{first_unfit}
use Rattle.rewrite.specs.declared.Edited.{Edited}
use Rattle.rewrite.specs.Rewriting.{rerouted, edited_of}

-- 16: the first inflow row that does not fit the old record
abbrev pub unfit_of : Site → Rows → ℕ → Line
unfit_of x l k = first_of InflowRow (stopped (first_unfit (old_part x k) l.inflow) (length l.inflow))

-- a row that was counted from row a
abbrev pub later : ℕ → Option ℕ → Option ℕ
later a None = None
later a (Some i) = Some (a + i)

-- 14: of the rows from the first changed one on; the place counts from row 1 of the lists
unfoldable pub over_from : ℕ → List ℕ → Rows → List ℕ → Line
over_from h p l ws =
    let a = first_changed l.inflow ws in
    first_of Over (later a (over_row h p (state_before l.outflow l.storage a) (drop a ws)))

-- 16, 17 and 14
abbrev pub row_lines : Site → Rows → ℕ → List ℕ → List Line
row_lines x l k r = unfit_of x l k ∷ forged_line (half_of x.setup) x.pond l ∷ over_from (half_of x.setup) x.pond l (new_inflow_of x l k r) ∷ []

-- docs/SCOPE.md's order of an edit, line by line
abbrev pub edit_lines : Site → Rows → ℕ → List ℕ → List Line
edit_lines x l k r = edit_check_lines x l k r ++ row_lines x l k r

-- the first refusal of an edit
unfoldable pub edit_refusal : Site → Rows → ℕ → List ℕ → Line
edit_refusal x l k r = first_refusal (edit_lines x l k r)

-- the rows then standing
abbrev pub new_rows : Site → Rows → ℕ → List ℕ → Rows
new_rows x l k r = rerouted (half_of x.setup) x.pond l (new_inflow_of x l k r)

-- the values of a done edit: class areas are those of the altered list
abbrev pub edit_done : Site → Rows → ℕ → List ℕ → Edited
edit_done x l k r = edited_of (half_of x.setup) (classes_all (altered x.subareas k r)) x.pond l (new_rows x l k r)

-- what an edit answers, and the rows that it leaves
abbrev pub EditAnswer : Type 0
EditAnswer = Result Edited (Refusal Rule)

unfoldable pub edit_answer : Site → Rows → ℕ → List ℕ → EditAnswer
edit_answer x l k r = answer (edit_refusal x l k r) (edit_done x l k r)

unfoldable pub edit_rows : Site → Rows → ℕ → List ℕ → Rows
edit_rows x l k r = after (edit_refusal x l k r) (new_rows x l k r) l

-- the refusal and the values that an answer has in docs/SCOPE.md: none when done, every value 0 when refused
abbrev pub edit_refusal_in : {R : Type 0} → Result Edited (Refusal R) → Result ⊤ (Refusal R)
edit_refusal_in (Ok e) = Ok tt
edit_refusal_in (Err v) = Err v

abbrev pub edit_nothing : Edited
edit_nothing = record { figures = no_figures; changed = None; peak = pos 0; released = pos 0 }

abbrev pub edit_values_in : {R : Type 0} → Result Edited (Refusal R) → Edited
edit_values_in (Ok e) = e
edit_values_in (Err v) = edit_nothing

-- the values of an edit's answer
unfoldable pub edit_values : Site → Rows → ℕ → List ℕ → Edited
edit_values x l k r = after (edit_refusal x l k r) (edit_done x l k r) edit_nothing
