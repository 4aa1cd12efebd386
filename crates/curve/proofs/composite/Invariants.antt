-- `curve::composite` meets its contract. The invariant: the two sums over the patches passed. Assumes nothing.
use mathlib.Core.Path.{◌≡◌}
use Rattle.laws.specs.Sum.{sum_to}
use Rattle.curve.specs.CurveNumbers.{area, weighted_at}
use Rattle.curve.proofs.composite.Given as goal

abbrev pub invariant-loop-cover : goal.invariant-loop-cover
invariant-loop-cover l = (l.area ≡ sum_to (area l.patches) l.cover-index) × (l.weighted ≡ sum_to (weighted_at l.patches) l.cover-index)
