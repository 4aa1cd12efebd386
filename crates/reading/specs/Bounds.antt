-- What the contracts cite: how much a study's file may hold. Assumes nothing.
use Rattle.std.specs.Prelude.{ℕ, ◌+◌, ◌≤◌}
use Rattle.laws.specs.Limits.{most_rows, most_subareas}
use Rattle.pond.specs.PondRows.{most_pond_rows}

-- one row more than a study may have
abbrev pub rows_room : ℕ
rows_room = most_rows + 1

-- rain has an entry more than it has steps
abbrev pub rain_room : ℕ
rain_room = rows_room + 1

-- one subarea and one pond row more than a study may have
abbrev pub subareas_room : ℕ
subareas_room = most_subareas + 1

abbrev pub pond_room : ℕ
pond_room = most_pond_rows + 1

-- what is laid of a file fits its lists: the rows asked for, rain entries, subareas and pond rows
pub record LaidOk (rows rain subareas pond : ℕ) : Type 0 where
  pub rows_fit : rows ≤ rows_room
  pub rain_fits : rain ≤ rain_room
  pub subareas_fit : subareas ≤ subareas_room
  pub pond_fits : pond ≤ pond_room
