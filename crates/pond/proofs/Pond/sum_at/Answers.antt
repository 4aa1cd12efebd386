-- `pond::sum_at` meets its contract. Assumes nothing.
use mathlib.Core.Path.{ap}
use Prim.Native.Nat.{ℕ, ◌*◌}
use native.Mathlib.Omega.{arith}
use Rattle.laws.proofs.Num.{mul_fits}
use Rattle.pond.specs.PondRows.{sum_at}
use Rattle.pond.proofs.Sums.{sum_most}
use Rattle.pond.proofs.Pond.sum_at.Goals as goal

pub overflow_mul-result : goal.overflow_mul-result
overflow_mul-result c =
    mul_fits 1800 10000000 c.args.self.now.sound.half.most (rw c.discharge_of.ensures (c.args.self.now.sound.table.discharges c.args.i c.requires)) tt

pub overflow_add-result : goal.overflow_add-result
unfolding sum_at
overflow_add-result c =
    omega (arith, ap (λ (z : ℕ). c.args.self.now.half * z) c.discharge_of.ensures, sum_most c.args.self.now.sound c.args.i c.requires)
