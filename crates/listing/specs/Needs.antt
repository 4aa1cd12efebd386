-- What is listed of the subareas once a study, and all that runs off them; no rule of docs/SCOPE.md is here.
use Rattle.std.specs.Prelude.{List, ◌++◌, ℕ, drop}
use Rattle.laws.specs.Sum.{sum_to}
use Rattle.laws.specs.Filled.{Filled}
use Rattle.laws.specs.Listed.{rows_from}
use Rattle.hydrograph.specs.InflowRows.{total_weight}
use Rattle.subarea.specs.declared.Setup.{Setup}
use Rattle.subarea.specs.Records.{records_in, record_at, area_of, curve_tenths, peak_of}
use Rattle.inflow.specs.Needs.{most_volume}
use Rattle.listing.specs.declared.Shapes.{Shapes}

-- subarea i's Tp, and the sum of its weights
abbrev pub peak_at : Setup → List ℕ → ℕ → ℕ
peak_at g s i = peak_of g (record_at s i)

abbrev pub total_at : Setup → List ℕ → ℕ → ℕ
total_at g s i = total_weight (peak_at g s i) g.step

-- a list with f 0 to f (n - 1) written over its first n numbers
abbrev pub written_over : (ℕ → ℕ) → ℕ → List ℕ → List ℕ
written_over f n l = rows_from f 0 n ++ drop n l

-- lists that have both of each subarea
pub record Listed (g : Setup) (s : List ℕ) (shapes : Shapes) : Type 0 where
  pub peaked : Filled (peak_at g s) (records_in s) shapes.peaks
  pub weighed : Filled (total_at g s) (records_in s) shapes.totals

-- all that runs off the subareas: the volume of the last runoff depth of each
abbrev pub most_of : List ℕ → List ℕ → ℕ
most_of rain s =
    sum_to (λ i. most_volume (curve_tenths (record_at s i)) (area_of (record_at s i)) rain) (records_in s)
