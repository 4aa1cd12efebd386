-- `pond::line` meets its contract. Assumes nothing.
use mathlib.Core.Path.{refl}
use Prim.Native.Nat.{◌-◌}
use native.Mathlib.Omega.{arith}
use Rattle.laws.proofs.Num.{mul_fits, part_le}
use Rattle.pond.specs.PondRows.{between}
use Rattle.pond.proofs.line.Goals as goal

pub overflow_mul-result : goal.overflow_mul-result
overflow_mul-result c = mul_fits 1018000000000 10000000 (omega arith) (omega arith) tt

pub overflow_add-result : goal.overflow_add-result
overflow_add-result c = omega (arith, part_le (c.args.x - c.args.x0) (c.args.x1 - c.args.x0) (c.args.y1 - c.args.y0) (omega arith))

pub returns : goal.returns
unfolding between
returns c = refl
