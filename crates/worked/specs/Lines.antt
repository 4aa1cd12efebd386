-- The lines marked (*) under 'Figures to check by' in document 01, curve numbers in tenths (Q-5): what a definition gives beside the figure.
use Rattle.std.specs.Prelude.{List, [], ◌∷◌, ℕ, ◌+◌}
use Rattle.laws.specs.Sum.{sum_to}
use Rattle.curve.specs.CurveNumbers.{composite_tenths}
use Rattle.runoff.specs.RunoffDepth.{depth}
use Rattle.travel.specs.TravelTime.{segment_time}
use Rattle.hydrograph.specs.InflowRows.{weight, volume_of}
use Rattle.pond.specs.PondRows.{empty}
use Rattle.rows.specs.Routing.{outflows, storages, total}
use Rattle.rows.specs.Figures.{at, release_at}

pub record Line : Type 0 where
  pub given : ℕ
  pub figure : ℕ

abbrev pub ◌is◌ : ℕ → ℕ → Line
given is figure = record { given = given; figure = figure }

infix 20 ◌is◌
-- two patches of one area, on cover code 3 and soil groups B (61) and C (74)
abbrev pub equal_areas : List ℕ
equal_areas = 3 ∷ 2 ∷ 100 ∷ 3 ∷ 3 ∷ 100 ∷ []

-- pond (0, 0, 0), (1000, 9000, 100) at D 60, and inflows 6000, 0, 1
abbrev pub two_rows : List ℕ
two_rows = 0 ∷ 0 ∷ 0 ∷ 1000 ∷ 9000 ∷ 100 ∷ []

abbrev pub inflows : List ℕ
inflows = 6000 ∷ 0 ∷ 1 ∷ []

abbrev pub outflow_rows : List ℕ
outflow_rows = outflows 30 two_rows empty inflows

abbrev pub storage_rows : List ℕ
storage_rows = storages 30 two_rows empty inflows

abbrev pub lines : List Line
lines =
    (depth 800 3000 is 1250000)
    ∷ (depth 800 500 is 0)
    ∷ (depth 800 520 is 158)
    ∷ (depth 980 3000 is 2768268)
    ∷ (depth 400 8000 is 1250000)
    ∷ (composite_tenths equal_areas is 675)
    ∷ (segment_time 1 1000 100 0 0 is 619)
    ∷ (segment_time 2 1000 100 0 0 is 491)
    ∷ (weight 216 60 1 is 170000)
    ∷ (weight 216 60 18 is 0)
    ∷ (volume_of 100 1000000 is 3630000)
    ∷ (at outflow_rows 0 is 50)
    ∷ (at outflow_rows 1 is 25)
    ∷ (at outflow_rows 2 is 12)
    ∷ (at storage_rows 0 is 4500)
    ∷ (at storage_rows 1 is 2250)
    ∷ (at storage_rows 2 is 1141)
    ∷ (sum_to (release_at 30 0 outflow_rows) 3 is 4860)
    ∷ (sum_to (release_at 30 0 outflow_rows) 3 + at storage_rows 2 is 6001)
    ∷ (total inflows is 6001)
    ∷ []
