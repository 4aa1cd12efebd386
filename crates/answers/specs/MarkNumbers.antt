-- A mark's answer as a host has it: three numbers, the refusal, its place and the mark's kind; and five doubles, the mark's outflow and stage, then the point.
use Rattle.std.specs.Prelude.{List, [], ◌∷◌, ℕ, Result}
use Rattle.refusals.specs.declared.Refusal.{Refusal}
use Rattle.refusals.specs.Refusals.{number_of, told_by}
use Rattle.marks.specs.declared.Marked.{Marked}
use Rattle.marks.specs.ChartMarks.{MarkAnswer, mark_refusal_in, mark_kind_in}

abbrev pub mark_numbers : ℕ → ℕ → ℕ → List ℕ
mark_numbers number place kind = number ∷ place ∷ kind ∷ []

-- refused: the number and the place, kind 0; done: 0 and 0, and the kind. A rule r is told by `number r`. Its five doubles are `mark_values_in` of ChartMarks
abbrev pub mark_numbers_by : {R : Type 0} → (R → ℕ) → Result Marked (Refusal R) → List ℕ
mark_numbers_by number a = mark_numbers (told_by number (mark_refusal_in a)).0 (told_by number (mark_refusal_in a)).1 (mark_kind_in a)

-- of a mark: by its rule's number
abbrev pub mark_numbers_of : MarkAnswer → List ℕ
mark_numbers_of = mark_numbers_by number_of
