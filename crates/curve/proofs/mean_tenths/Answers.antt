-- `curve::mean_tenths` meets its contract. Assumes nothing.
use mathlib.Core.Path.{ap}
use Prim.Native.Nat.{ℕ, ◌*◌, ◌/◌}
use native.Mathlib.Omega.{arith}
use Rattle.curve.specs.CurveNumbers.{nearest, mean_tenths}
use Rattle.curve.proofs.mean_tenths.Goals as goal

pub returns : goal.returns
unfolding nearest mean_tenths
returns c = ap (λ (z : ℕ). z / (2 * c.args.area)) (omega arith)
