-- `hydrograph::dot` meets its contract: no product is above the greatest weight times the greatest depth. Assumes nothing.
use mathlib.Core.Path.{◌≡◌}
use Prim.Native.Nat.{◌+◌, ◌-◌, ◌*◌}
use native.Mathlib.Nat.{mul-le-mul}
use native.Mathlib.Omega.{arith}
use Rattle.laws.proofs.Sums.{sum_more, sum_most}
use Rattle.hydrograph.specs.Needs.{product}
use Rattle.hydrograph.proofs.dot.Goals as goal

pub overflow_add-sum : goal.overflow_add-sum
overflow_add-sum c =
    let i = c.loop-i.i in
    let f = product c.args.weights.now c.args.depths.now c.args.k in
    let turn : c.from.result * c.from-in-loop-i.result ≡ f i = rw (c.from-in-loop-i.ensures, c.from.ensures) in
    let low = c.requires.1.1.1 in
    omega (arith, turn, c.loop-i.invariant, sum_more f i, sum_most f 30000000000000 (i + 1) (λ j l. mul-le-mul (low.0.each j (omega arith)) (low.1.each (c.args.k - j) (omega arith))))
