-- docs/SCOPE.md, 'Pond rows' and refusals 12 and 13: the pond's table, its X_i, the straight lines between them, and one pond step.
use Rattle.std.specs.Prelude.{Bool, ◌&&◌, Option, None, Some, Result, Ok, Err, List, ℕ, ◌+◌, ◌-◌, ◌*◌, ◌/◌, ◌%◌, length, get_or, leb, ltb, eqb}
use Rattle.laws.specs.Pick.{pick}
use Rattle.laws.specs.Scan.{scan}
use Rattle.laws.specs.Search.{first_bad_of}
use Rattle.laws.specs.Within.{within}
use Rattle.pond.specs.declared.State.{State}

-- a pond is flat, three numbers a row: stage in thousandths of a ft, storage in thousandths of a cubic foot, discharge in thousandths of a cfs; rows count from 0 here
abbrev pub row_width : ℕ
row_width = 3

abbrev pub most_pond_rows : ℕ
most_pond_rows = 64

abbrev pub rows_in : List ℕ → ℕ
rows_in p = length p / row_width

abbrev pub stage : List ℕ → ℕ → ℕ
stage p i = get_or p (row_width * i) 0

abbrev pub storage : List ℕ → ℕ → ℕ
storage p i = get_or p (row_width * i + 1) 0

abbrev pub discharge : List ℕ → ℕ → ℕ
discharge p i = get_or p (row_width * i + 2) 0

-- X_i = storage + h times discharge, h half the step
unfoldable pub sum_at : ℕ → List ℕ → ℕ → ℕ
sum_at h p i = storage p i + h * discharge p i

-- the last X_i (exact: 12 leaves 2 rows at least, `table_ok`; so below)
abbrev pub last_sum : ℕ → List ℕ → ℕ
last_sum h p = sum_at h p (rows_in p - 1)

-- the last discharge
abbrev pub last_discharge : List ℕ → ℕ
last_discharge p = discharge p (rows_in p - 1)

-- the lower of the two rows around x: the first, but for the last row, whose next X_i is not below x
unfoldable pub lower : ℕ → List ℕ → ℕ → ℕ
lower h p x = scan (λ i. ltb (sum_at h p (i + 1)) x) (rows_in p - 2) 0

-- the straight line through (x0, y0) and (x1, y1) at x, down (exact where x is at most the last X_i: `around`, `line_ok`)
unfoldable pub between : ℕ → ℕ → ℕ → ℕ → ℕ → ℕ
between x x0 x1 y0 y1 = y0 + (x - x0) * (y1 - y0) / (x1 - x0)

-- the straight line at x between the two rows around it, of a column y
abbrev pub line_on : ℕ → List ℕ → ℕ → (ℕ → ℕ) → ℕ → ℕ
line_on h p x y i = between x (sum_at h p i) (sum_at h p (i + 1)) (y i) (y (i + 1))

-- the straight-line discharge at x, and the straight-line stage
unfoldable pub discharge_at : ℕ → List ℕ → ℕ → ℕ
discharge_at h p x = line_on h p x (discharge p) (lower h p x)

unfoldable pub stage_at : ℕ → List ℕ → ℕ → ℕ
stage_at h p x = line_on h p x (stage p) (lower h p x)

-- the empty pond, before row 1
abbrev pub empty : State
empty = record { storage = 0; outflow = 0 }

-- X = S - h O + inflow volume (exact: `reach_ok` of rows; in an edit by what 17 leaves, `rows_ok` of rows)
unfoldable pub arrived : ℕ → State → ℕ → ℕ
arrived h st v = st.storage - h * st.outflow + v

-- the state at X: the new outflow is the discharge there, the new storage X - h times it (exact: `settled_sum`)
unfoldable pub settled : ℕ → List ℕ → ℕ → State
settled h p x = record { storage = x - h * discharge_at h p x; outflow = discharge_at h p x }

-- one row: from a state and an inflow volume to the next state
abbrev pub next : ℕ → List ℕ → State → ℕ → State
next h p st v = settled h p (arrived h st v)

-- refusal 12, place 0: whole rows, 2 to 64 of them
unfoldable pub count_good : List ℕ → Bool
count_good p = eqb (length p % row_width) 0 && within 2 (rows_in p) most_pond_rows

-- refusal 12: row i within its limits
unfoldable pub row_within : List ℕ → ℕ → Bool
row_within p i = leb (stage p i) 1000000 && (leb (storage p i) 1000000000000 && leb (discharge p i) 10000000)

-- row i in order after row i - 1: stage and storage rise strictly, discharge never falls; the first storage and discharge are 0 (i - 1 is read only where i is not 0)
unfoldable pub order_good : List ℕ → ℕ → Bool
order_good p i =
    pick (eqb i 0)
    (eqb (storage p 0) 0 && eqb (discharge p 0) 0)
    (ltb (stage p (i - 1)) (stage p i) && (ltb (storage p (i - 1)) (storage p i) && leb (discharge p (i - 1)) (discharge p i)))

abbrev pub row_good : List ℕ → ℕ → Bool
row_good p i = row_within p i && order_good p i

-- the first bad row
abbrev pub first_bad : List ℕ → Option ℕ
first_bad p = first_bad_of (row_good p) (rows_in p)

-- refusal 13: row i has no less storage than h times its discharge
abbrev pub held_good : ℕ → List ℕ → ℕ → Bool
held_good h p i = leb (h * discharge p i) (storage p i)

-- the first row that has less
abbrev pub first_short : ℕ → List ℕ → Option ℕ
first_short h p = first_bad_of (held_good h p) (rows_in p)

-- the place that a row found is refused at: rows count from 1 there
abbrev pub row_place : Option ℕ → Option ℕ
row_place None = None
row_place (Some i) = Some (i + 1)

-- refusal 12: the place that it is charged to, 0 for the count
abbrev pub table_place : List ℕ → Option ℕ
table_place p = pick (count_good p) (row_place (first_bad p)) (Some 0)

-- the place that an answer is refused at
abbrev pub place_of : {A : Type 0} → Result A ℕ → Option ℕ
place_of (Ok a) = None
place_of (Err i) = Some i
