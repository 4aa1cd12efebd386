-- A study's answer as a host has it: twelve numbers, the refusal, its place, then the figures.
use Rattle.std.specs.Prelude.{List, [], ◌∷◌, ℕ, Result}
use Rattle.study.specs.declared.Figures.{Figures}
use Rattle.refusals.specs.declared.Refusal.{Refusal}
use Rattle.refusals.specs.Refusals.{number_of, told_by}
use Rattle.study.specs.Study.{StudyAnswer, study_refusal_in, study_values_in}

abbrev pub study_numbers : ℕ → ℕ → Figures → List ℕ
study_numbers number place f =
    number ∷ place ∷ f.inflow ∷ f.released ∷ f.storage ∷ f.peak ∷ f.row ∷ f.stage ∷ f.surfaces ∷ f.districts ∷ f.lots ∷ f.rural ∷ []

-- refused: the number and the place, every value 0; done: 0 and 0, and the values. A rule r is told by `number r`
abbrev pub study_numbers_by : {R : Type 0} → (R → ℕ) → Result Figures (Refusal R) → List ℕ
study_numbers_by number a = study_numbers (told_by number (study_refusal_in a)).0 (told_by number (study_refusal_in a)).1 (study_values_in a)

-- of a study: by its rule's number
abbrev pub study_numbers_of : StudyAnswer → List ℕ
study_numbers_of = study_numbers_by number_of
