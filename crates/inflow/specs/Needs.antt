-- A record's numbers, as contracts name them; no rule of docs/SCOPE.md is here.
use Rattle.std.specs.Prelude.{List, ℕ, ◌-◌, length, get_or}
use Rattle.runoff.specs.RunoffDepth.{depth}
use Rattle.hydrograph.specs.InflowRows.{total_weight, volume_of}
use Rattle.sums.specs.declared.Numbers.{Numbers}
use Rattle.subarea.specs.declared.Setup.{Setup}
use Rattle.subarea.specs.Records.{area_of, curve_tenths, peak_of}

-- of a time to peak and a sum of weights that are given
abbrev pub numbers_with : List ℕ → ℕ → ℕ → Numbers
numbers_with r Tp W = record { tenths = curve_tenths r; area = area_of r; peak = Tp; total = W }

abbrev pub numbers_of : Setup → List ℕ → Numbers
numbers_of g r = numbers_with r (peak_of g r) (total_weight (peak_of g r) g.step)

-- all that runs off an area A of curve number c in tenths: the volume of the last runoff depth
abbrev pub most_volume : ℕ → ℕ → List ℕ → ℕ
most_volume c A rain = volume_of A (depth c (get_or rain (length rain - 1) 0))
