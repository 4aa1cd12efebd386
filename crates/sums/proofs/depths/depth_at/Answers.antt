-- `sums::depths::depth_at` meets its contract. Assumes nothing.
use mathlib.Core.Path.{sym, ◌∙◌}
use native.Mathlib.Omega.{arith}
use Rattle.hydrograph.proofs.Released.{runoff_own, runoff_last}
use Rattle.sums.proofs.depths.depth_at.Goals as goal

pub returns-then-t-last : goal.returns-then-t-last
returns-then-t-last c =
    c.depth.ensures ∙ runoff_own c.args.tenths c.args.rain.now c.requires.0 c.requires.1 c.args.t (omega arith)

pub returns-else-t-last : goal.returns-else-t-last
returns-else-t-last c =
    c.depth-else-t-last.ensures ∙ sym (runoff_last c.args.tenths c.args.rain.now c.requires.0 c.requires.1 c.args.t (omega arith))
