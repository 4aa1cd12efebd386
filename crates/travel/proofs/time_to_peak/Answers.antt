-- `travel::time_to_peak` meets its contract. Assumes nothing.
use native.Mathlib.Omega.{arith}
use Rattle.travel.specs.TravelTime.{time_to_peak}
use Rattle.travel.proofs.time_to_peak.Goals as goal

-- half of any step leaves room for the lag
pub overflow_add-result : goal.overflow_add-result
overflow_add-result c = omega (arith, c.requires.most)

pub returns : goal.returns
unfolding time_to_peak
returns c = omega arith
