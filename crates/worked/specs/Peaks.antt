-- The cases of refusals 10 and 11 under 'Figures to check by' in document 01, as Q-3 has them: the last D or Tc that passes, and the next.
use Rattle.std.specs.Prelude.{◌≡◌, true, false}
use Rattle.travel.specs.TravelTime.{time_to_peak}
use Rattle.hydrograph.specs.InflowRows.{peak_good, weights_good}

pub record Peaks : Type 0 where
  -- Tc 360: D 432 passes, 434 is refusal 10
  pub ten_passes : peak_good 432 360 ≡ true
  pub ten : peak_good 434 360 ≡ false
  -- D 60: Tc 10,191 passes, 10,192 is refusal 11
  pub eleven_at : time_to_peak 60 10191 ≡ 6144
  pub eleven_passes : weights_good 60 10191 ≡ true
  pub eleven_past : time_to_peak 60 10192 ≡ 6145
  pub eleven : weights_good 60 10192 ≡ false
