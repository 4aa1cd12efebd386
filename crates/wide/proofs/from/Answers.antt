-- `wide::from` meets its contract. Assumes nothing.
use mathlib.Core.Path.{refl}
use native.Mathlib.Omega.{arith}
use Rattle.wide.specs.Limbs.{value}
use Rattle.wide.proofs.Limbs.{small_first}
use Rattle.wide.proofs.from.Goals as goal

pub returns : goal.returns
unfolding value
returns c = record { wide = record { long = refl; small = small_first 11 (omega arith) }; is = omega arith }
