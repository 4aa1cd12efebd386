-- docs/SCOPE.md, 'Figures of a study' and 'Refusal numbers and their order': what a study answers, and what it leaves in the row lists.
use Rattle.std.specs.Prelude.{List, [], ◌∷◌, ◌++◌, ℕ, ⊤, Result, Ok, Err}
use Rattle.laws.specs.Sum.{sum_to}
use Rattle.curve.specs.CurveNumbers.{patches_in, class_area}
use Rattle.curve.specs.declared.Classes.{Classes}
use Rattle.pond.specs.PondRows.{empty}
use Rattle.rows.specs.Routing.{outflows, storages, over_row}
use Rattle.rows.specs.Figures.{figures_of}
use Rattle.rows.specs.declared.RowFigures.{RowFigures}
use Rattle.refusals.specs.declared.Rule.{Rule}
use Rattle.refusals.specs.declared.Rule.TheVariants.{Over}
use Rattle.refusals.specs.declared.Refusal.{Refusal}
use Rattle.refusals.specs.Refusals.{Line, first_of, first_refusal, answer, after}
use Rattle.subarea.specs.Records.{half_of, records_in, record_at, patches}
use Rattle.checks.specs.Site.{Site, Rows}
use Rattle.checks.specs.Order.{check_lines}
use Rattle.inflow.specs.Inflow.{inflow_of}
use Rattle.study.specs.declared.Figures.{Figures}

-- the area in a class over all subareas
abbrev pub class_total : List ℕ → ℕ → ℕ
class_total s class = sum_to (λ i. class_area (patches (record_at s i)) (patches_in (patches (record_at s i))) class) (records_in s)

abbrev pub classes_all : List ℕ → Classes
classes_all s = record { surfaces = class_total s 1; districts = class_total s 2; lots = class_total s 3; rural = class_total s 4 }

-- the figures of rows, with class areas
abbrev pub figures_with : Classes → RowFigures → Figures
figures_with c f =
    record {
      inflow = f.inflow;
      released = f.kept.released;
      storage = f.storage;
      peak = f.kept.peak;
      row = f.kept.row;
      stage = f.kept.stage;
      surfaces = c.surfaces;
      districts = c.districts;
      lots = c.lots;
      rural = c.rural;
    }

-- with those of a list
abbrev pub with_classes : List ℕ → RowFigures → Figures
with_classes s f = figures_with (classes_all s) f

-- rows routed from inflow rows vs, from the empty pond
abbrev pub routed : ℕ → List ℕ → List ℕ → Rows
routed h p vs = record { inflow = vs; outflow = outflows h p empty vs; storage = storages h p empty vs }

-- their figures, with the class areas of a list
abbrev pub figures_all : ℕ → List ℕ → List ℕ → List ℕ → Figures
figures_all h s p vs = with_classes s (figures_of h p vs (outflows h p empty vs) (storages h p empty vs))

-- 14: the first row that goes over
unfoldable pub over_check : ℕ → List ℕ → List ℕ → Line
over_check h p vs = first_of Over (over_row h p empty vs)

abbrev pub over_of : Site → Rows → Line
over_of x l = over_check (half_of x.setup) x.pond (inflow_of x l)

-- docs/SCOPE.md's order of a study, 1 to 14 with 20 after 2 and 19 after 3, line by line, and the first that refuses
abbrev pub study_lines : Site → Rows → List Line
study_lines x l = check_lines x l ++ (over_of x l ∷ [])

unfoldable pub study_refusal : Site → Rows → Line
study_refusal x l = first_refusal (study_lines x l)

-- a done study's figures and rows
abbrev pub study_figures : Site → Rows → Figures
study_figures x l = figures_all (half_of x.setup) x.subareas x.pond (inflow_of x l)

-- what a study answers, and the rows that it leaves
abbrev pub StudyAnswer : Type 0
StudyAnswer = Result Figures (Refusal Rule)

unfoldable pub study_answer : Site → Rows → StudyAnswer
study_answer x l = answer (study_refusal x l) (study_figures x l)

unfoldable pub study_rows : Site → Rows → Rows
study_rows x l = after (study_refusal x l) (routed (half_of x.setup) x.pond (inflow_of x l)) l

-- the refusal and the values that an answer has in docs/SCOPE.md: none when done, every value 0 when refused
abbrev pub study_refusal_in : {R : Type 0} → Result Figures (Refusal R) → Result ⊤ (Refusal R)
study_refusal_in (Ok f) = Ok tt
study_refusal_in (Err e) = Err e

abbrev pub no_figures : Figures
no_figures =
    record { inflow = 0; released = 0; storage = 0; peak = 0; row = 0; stage = 0; surfaces = 0; districts = 0; lots = 0; rural = 0 }

abbrev pub study_values_in : {R : Type 0} → Result Figures (Refusal R) → Figures
study_values_in (Ok f) = f
study_values_in (Err e) = no_figures

-- the values of a study's answer
unfoldable pub study_values : Site → Rows → Figures
study_values x l = after (study_refusal x l) (study_figures x l) no_figures
