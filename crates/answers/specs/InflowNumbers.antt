-- The answer of inflow rows alone as a host has it: two numbers, the refusal and its place, which are 0 and 0 when done.
use Rattle.std.specs.Prelude.{List, [], ◌∷◌, ℕ, ⊤, Result}
use Rattle.refusals.specs.declared.Refusal.{Refusal}
use Rattle.refusals.specs.Refusals.{Line, number_of, told_by}

-- a rule r is told by `number r`
abbrev pub refusal_numbers_by : {R : Type 0} → (R → ℕ) → Result ⊤ (Refusal R) → List ℕ
refusal_numbers_by number v = (told_by number v).0 ∷ (told_by number v).1 ∷ []

-- of a line: by its rule's number
abbrev pub refusal_numbers : Line → List ℕ
refusal_numbers = refusal_numbers_by number_of
