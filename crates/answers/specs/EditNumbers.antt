-- An edit's answer as a host has it: thirteen numbers, the twelve of a study's and the first changed row; and the two changes, with their signs.
use Rattle.std.specs.Prelude.{List, [], ◌∷◌, ◌++◌, ℕ, ℤ, Option, None, Some, Result}
use Rattle.refusals.specs.declared.Refusal.{Refusal}
use Rattle.refusals.specs.Refusals.{number_of, told_by}
use Rattle.rewrite.specs.declared.Edited.{Edited}
use Rattle.edit.specs.Edit.{EditAnswer, edit_refusal_in, edit_values_in}
use Rattle.answers.specs.StudyNumbers.{study_numbers}

-- the first changed row as it is told, from 1: 0 for none
abbrev pub told_row : Option ℕ → ℕ
told_row None = 0
told_row (Some k) = k

abbrev pub edit_numbers : ℕ → ℕ → Edited → List ℕ
edit_numbers number place e = study_numbers number place e.figures ++ (told_row e.changed ∷ [])

-- refused: the number and the place, every value 0; done: 0 and 0, and the values. A rule r is told by `number r`
abbrev pub edit_numbers_by : {R : Type 0} → (R → ℕ) → Result Edited (Refusal R) → List ℕ
edit_numbers_by number a = edit_numbers (told_by number (edit_refusal_in a)).0 (told_by number (edit_refusal_in a)).1 (edit_values_in a)

-- of an edit: by its rule's number
abbrev pub edit_numbers_of : EditAnswer → List ℕ
edit_numbers_of = edit_numbers_by number_of

-- peak outflow and total released, new less old
abbrev pub changes_of : Edited → List ℤ
changes_of e = e.peak ∷ e.released ∷ []
