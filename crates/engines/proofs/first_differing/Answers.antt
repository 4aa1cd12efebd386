-- `engines::first_differing` meets its contract. Assumes nothing.
use native.Mathlib.Omega.{arith}
use Rattle.engines.proofs.Differing.{alike_most}
use Rattle.engines.proofs.first_differing.Goals as goal

pub overflow_add-result : goal.overflow_add-result
overflow_add-result c = omega (arith, c.alike-i.ensures, alike_most c.args.a.now c.args.b.now)
