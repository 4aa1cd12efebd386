-- `pond::settle` meets its contract. Assumes nothing.
use mathlib.Core.Path.{ap}
use Prim.Native.Nat.{ℕ, ◌*◌}
use native.Mathlib.Omega.{arith}
use Rattle.laws.proofs.Num.{mul_fits}
use Rattle.pond.proofs.Sums.{discharge_most}
use Rattle.pond.proofs.Steps.{drawn}
use Rattle.pond.proofs.Pond.settle.Goals as goal

pub overflow_mul-result : goal.overflow_mul-result
overflow_mul-result c =
    mul_fits 1800 10000000 c.args.self.now.sound.half.most (omega (arith, c.discharge_at-outflow.ensures, discharge_most c.args.self.now.sound c.args.x c.requires)) tt

pub overflow_sub-result : goal.overflow_sub-result
overflow_sub-result c =
    omega (arith, ap (λ (z : ℕ). c.args.self.now.half * z) c.discharge_at-outflow.ensures, drawn c.args.self.now.sound c.args.x c.requires)
