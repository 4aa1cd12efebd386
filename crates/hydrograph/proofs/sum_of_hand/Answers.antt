-- `hydrograph::sum_of_hand` meets its contract. Assumes nothing.
use Prim.Native.Nat.{ℕ, ◌+◌}
use native.Mathlib.Omega.{arith}
use lib.ListN.{get_or}
use Rattle.laws.proofs.Sums.{sum_more, sum_most}
use Rattle.hydrograph.proofs.sum_of_hand.Goals as goal

pub overflow_add-sum : goal.overflow_add-sum
overflow_add-sum c =
    let f : ℕ → ℕ = λ (g : ℕ). get_or c.args.list.now g 0 in
    omega (arith, c.loop-i.invariant, sum_more f c.loop-i.i, sum_most f 1000000 (c.loop-i.i + 1) (λ g k. c.requires.each g (omega arith)))
