-- `hydrograph::sum_of_hand` meets its contract. Assumes nothing.
use mathlib.Core.Path.{◌≡◌}
use Prim.Native.Nat.{ℕ}
use lib.ListN.{get_or}
use Rattle.laws.specs.Sum.{sum_to}
use Rattle.hydrograph.proofs.sum_of_hand.Given as goal

abbrev pub invariant-loop-i : goal.invariant-loop-i
invariant-loop-i l = l.sum ≡ sum_to (λ (g : ℕ). get_or l.list g 0) l.i
