-- The cases of refusals 10 and 11 hold, by computation. Assumes nothing.
use mathlib.Core.Path.{refl}
use Rattle.travel.specs.TravelTime.{time_to_peak}
use Rattle.hydrograph.specs.InflowRows.{peak_good, weights_good}
use Rattle.worked.specs.Peaks.{Peaks}

pub peaks : Peaks
unfolding time_to_peak peak_good weights_good
peaks = record { ten_passes = refl; ten = refl; eleven_at = refl; eleven_passes = refl; eleven_past = refl; eleven = refl }
