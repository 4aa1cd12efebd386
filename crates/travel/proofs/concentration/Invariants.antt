-- `travel::concentration` meets its contract: the sum so far is that of the segments passed. Assumes nothing.
use mathlib.Core.Path.{◌≡◌}
use Rattle.laws.specs.Sum.{sum_to}
use Rattle.travel.specs.TravelTime.{segment_time_at}
use Rattle.travel.proofs.concentration.Given as goal

abbrev pub invariant-loop-kind : goal.invariant-loop-kind
invariant-loop-kind l = l.sum ≡ sum_to (segment_time_at l.segments) l.kind-index
