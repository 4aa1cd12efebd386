-- `hydrograph::dot` meets its contract. Assumes nothing.
use mathlib.Core.Path.{◌≡◌}
use Rattle.laws.specs.Sum.{sum_to}
use Rattle.hydrograph.specs.Needs.{product}
use Rattle.hydrograph.proofs.dot.Given as goal

abbrev pub invariant-loop-i : goal.invariant-loop-i
invariant-loop-i l = l.sum ≡ sum_to (product l.weights l.depths l.k) l.i
