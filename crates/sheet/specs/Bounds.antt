-- What the contracts cite: three lists of rows, and the rows' numbers. Assumes nothing.
use Rattle.std.specs.Prelude.{◌≡◌, ℕ, ◌+◌, ◌≤◌, List, length, Ok, Err}
use Rattle.laws.specs.Limits.{last_number}
use Rattle.reading.specs.Bounds.{rows_room}
use Rattle.study.specs.Study.{StudyAnswer}

-- three lists of as many rows, no more than a study is lent
pub record AsMany (inflow outflow storage : List ℕ) : Type 0 where
  pub few : length inflow ≤ rows_room
  pub outflows : length outflow ≡ length inflow
  pub storages : length storage ≡ length inflow

-- the first k rows, from number `first` on, have numbers of at most 9,007,199,254,740,991
abbrev pub RowsNumbered : ℕ → ℕ → Type 0
RowsNumbered first k = first + k ≤ last_number + 1

-- what a done study leaves: all m rows have their numbers, and the peak's row is one of them
abbrev pub Told : ℕ → ℕ → StudyAnswer → Type 0
Told first m (Ok f) = RowsNumbered first m × ((1 ≤ f.row) × (f.row ≤ m))
Told first m (Err v) = Unit {0}
