-- docs/SCOPE.md, 'Refusal numbers and their order': a refusal has a rule and a place, and the first of an order decides.
use Rattle.std.specs.Prelude.{◌≡◌, Bool, true, false, List, [], ◌∷◌, ◌++◌, ℕ, ◌+◌, ltb, ⊤, Result, Ok, Err, Option, None, Some}
use Rattle.laws.specs.Pick.{pick}
use Rattle.refusals.specs.declared.Rule.{Rule}
use Rattle.refusals.specs.declared.Rule.TheVariants.{Lengths, Step, Rain, LastRow, Subareas, Patches, Segments, Area, Concentration, Coarse, Weights, PondTable, PondHeld, Over, Place, InflowRow, Forged, Row, Rise, SheetRule}
use Rattle.refusals.specs.declared.Refusal.{Refusal}

-- a rule's number
abbrev pub number_of : Rule → ℕ
number_of Lengths = 1
number_of Step = 2
number_of Rain = 3
number_of LastRow = 4
number_of Subareas = 5
number_of Patches = 6
number_of Segments = 7
number_of Area = 8
number_of Concentration = 9
number_of Coarse = 10
number_of Weights = 11
number_of PondTable = 12
number_of PondHeld = 13
number_of Over = 14
number_of Place = 15
number_of InflowRow = 16
number_of Forged = 17
number_of Row = 18
number_of Rise = 19
number_of SheetRule = 20

-- a line of an order
abbrev pub Line : Type 0
Line = Result ⊤ (Refusal Rule)

abbrev pub refuse : {R : Type 0} → R → ℕ → Result ⊤ (Refusal R)
refuse r k = Err (record { rule = r; place = k })

-- no refusal
abbrev pub none : Line
none = Ok tt

abbrev pub passes : Line → Bool
passes (Ok u) = true
passes (Err e) = false

-- the number and the place that are told, where a rule r is told by `number r`: 0 and 0 for none
abbrev pub told_by : {R : Type 0} → (R → ℕ) → Result ⊤ (Refusal R) → ℕ × ℕ
told_by number (Ok u) = (0, 0)
told_by number (Err e) = (number e.rule, e.place)

-- of a line: by its rule's number
abbrev pub told : Line → ℕ × ℕ
told = told_by number_of

-- an error, unless a test holds
abbrev pub check_of : {E : Type 0} → Bool → E → Result ⊤ E
check_of true e = Ok tt
check_of false e = Err e

-- rule r at place k, unless a test holds
abbrev pub charge : {R : Type 0} → R → Bool → ℕ → Result ⊤ (Refusal R)
charge r b k = check_of b (record { rule = r; place = k })

-- with place 0
abbrev pub unless : {R : Type 0} → R → Bool → Result ⊤ (Refusal R)
unless r b = charge r b 0

-- where a scan of many places from 0 stopped early
abbrev pub stopped : ℕ → ℕ → Option ℕ
stopped at many = pick (ltb at many) (Some at) None

-- the place that a search found: it counts from 1, or from 0
abbrev pub first_of : {R : Type 0} → R → Option ℕ → Result ⊤ (Refusal R)
first_of r None = Ok tt
first_of r (Some i) = refuse r (i + 1)

abbrev pub first_at : {R : Type 0} → R → Option ℕ → Result ⊤ (Refusal R)
first_at r None = Ok tt
first_at r (Some i) = refuse r i

-- the first of two that is a refusal
abbrev pub or_else : {R : Type 0} → Result ⊤ (Refusal R) → Result ⊤ (Refusal R) → Result ⊤ (Refusal R)
or_else (Ok u) w = w
or_else (Err e) w = Err e

-- the first of a list of lines that refuses; none where none does
abbrev pub first_refusal : List Line → Line
first_refusal [] = Ok tt
first_refusal (Ok u ∷ ls) = first_refusal ls
first_refusal (Err e ∷ ls) = Err e

-- an answer: the value where nothing is refused, else the refusal
abbrev pub answer : {A : Type 0} → Line → A → Result A (Refusal Rule)
answer (Ok u) a = Ok a
answer (Err e) a = Err e

-- what is there where nothing is refused, else what was
abbrev pub after : {A : Type 0} → Line → A → A → A
after v new old = pick (passes v) new old

-- every line of a list passes
abbrev pub AllPass : List Line → Type 0
AllPass [] = Unit {0}
AllPass (v ∷ vs) = (v ≡ none) × AllPass vs

-- v stands in a list, and every line before it passes
pub record First (l : List Line) (v : Line) : Type 0 where
  pub before_it : List Line
  pub after_it : List Line
  pub stands : l ≡ before_it ++ (v ∷ after_it)
  pub before_pass : AllPass before_it
