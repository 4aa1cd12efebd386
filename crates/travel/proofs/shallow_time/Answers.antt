-- `travel::shallow_time` meets its contract. Assumes nothing.
use mathlib.Core.Path.{◌∙◌}
use native.Mathlib.Nat.{mul-le-mul}
use native.Mathlib.Omega.{arith}
use Rattle.laws.proofs.Num.{mul_fits}
use Rattle.travel.proofs.Times.{top_most, bottom_least, square_most, shallow_root}
use Rattle.travel.proofs.shallow_time.Goals as goal

pub overflow_mul-length : goal.overflow_mul-length
overflow_mul-length c = mul_fits 4000 4000 c.requires.length_most c.requires.length_most tt

pub overflow_mul-length-2 : goal.overflow_mul-length-2
overflow_mul-length-2 c = omega (arith, top_most c.requires)

pub overflow_mul-constant : goal.overflow_mul-constant
overflow_mul-constant c = mul_fits 203282 203282 c.requires.constant_most c.requires.constant_most tt

pub overflow_mul-constant-2 : goal.overflow_mul-constant-2
overflow_mul-constant-2 c = mul_fits 41323571524 10000 (mul-le-mul c.requires.constant_most c.requires.constant_most) c.requires.slope_most tt

pub nonzero_div-length : goal.nonzero_div-length
nonzero_div-length c = omega (arith, bottom_least c.requires)

pub root-requires : goal.root-requires
root-requires c = square_most c.requires

pub returns : goal.returns
returns c = c.root.ensures ∙ shallow_root c.requires
