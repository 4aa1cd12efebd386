-- `runoff::depth` meets its contract: no product outgrows its type. Assumes nothing.
use mathlib.Core.Path.{sym}
use Prim.Native.Nat.{ℕ, ◌+◌, ◌*◌, ◌≤◌}
use native.Mathlib.Nat.{mul-le-mul}
use native.Mathlib.Omega.{arith}
use mir.Val.{Fits}
use mir.Syntax.{w64}
use Rattle.laws.proofs.Num.{mul_fits}
use Rattle.runoff.specs.RunoffDepth.{M}
use Rattle.runoff.proofs.Rising.{depth_some, m_some}
use Rattle.runoff.proofs.depth.Goals as goal

-- c p within the limits
product : (s : goal.Start) → s.args.tenths * s.args.rain ≤ 29400000
product s = mul-le-mul s.requires.0.most s.requires.1

-- so are c p + 2000 c, of which N is a part, and M
wetted : (s : goal.Start) → s.args.tenths * s.args.rain + 2000 * s.args.tenths ≤ 31360000
wetted s = omega (arith, product s, s.requires.0.most)

m_small : (s : goal.Start) → M s.args.tenths s.args.rain ≤ 37400000
m_small s = omega (arith, product s)

-- 1000 n^2 fits for every part n of it, whether or not it is N
thousandfold : {n : ℕ} → n ≤ 31360000 → Fits w64 (1000 * (n * n))
thousandfold l = omega (arith, mul-le-mul l l)

pub overflow_mul-product : goal.overflow_mul-product
overflow_mul-product c = mul_fits 980 30000 c.requires.0.most c.requires.1 tt

pub overflow_add-wetted : goal.overflow_add-wetted
overflow_add-wetted c = omega (arith, product c)

pub overflow_add-m : goal.overflow_add-m
overflow_add-m c = omega (arith, product c.before)

pub overflow_mul-result : goal.overflow_mul-result
overflow_mul-result c = mul_fits 31360000 31360000 (omega (arith, wetted c.before)) (omega (arith, wetted c.before)) tt

pub overflow_mul-result-2 : goal.overflow_mul-result-2
overflow_mul-result-2 c = thousandfold (omega (arith, wetted c.before))

pub overflow_mul-result-3 : goal.overflow_mul-result-3
overflow_mul-result-3 c = mul_fits 980 37400000 c.requires.0.most (m_small c.before) tt

pub nonzero_div-result : goal.nonzero_div-result
nonzero_div-result c = omega (arith, m_some c.args.tenths c.requires.0 c.args.rain)

pub returns : goal.returns
returns c = sym (depth_some c.args.tenths c.args.rain (omega arith))
