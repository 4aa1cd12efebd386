-- Parts by a subarea's numbers, and what contracts ask of sums; no rule of document 01 is here.
use Rattle.std.specs.Prelude.{List, ℕ, ◌+◌, ◌-◌, ◌*◌, ◌/◌, ◌≤◌, ◌<◌, length, get_or}
use Rattle.laws.specs.Limits.{most_area}
use Rattle.hydrograph.specs.InflowRows.{volume_of, part}
use Rattle.sums.specs.declared.Numbers.{Numbers}

-- a subarea's part of row k, by its numbers
abbrev pub part_by : ℕ → List ℕ → Numbers → ℕ → ℕ
part_by D rain own k = part own.tenths own.area own.peak D rain k

-- the volume between two sums that follow each other, the later one in place k
abbrev pub volume_between : Numbers → List ℕ → ℕ → ℕ
volume_between own sums k = volume_of own.area (get_or sums k 0 / own.total) - volume_of own.area (get_or sums (k - 1) 0 / own.total)

-- sums that never fall, over a total that is not 0 and of which none is more than 30,000,000 times
pub record SumsOk (own : Numbers) (sums : List ℕ) : Type 0 where
  pub area_most : own.area ≤ most_area
  pub some : 0 < own.total
  pub rising : (i : ℕ) → i + 1 < length sums → get_or sums i 0 ≤ get_or sums (i + 1) 0
  pub limit : (i : ℕ) → i < length sums → get_or sums i 0 ≤ 30000000 * own.total
