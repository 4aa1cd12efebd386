-- `sums::depths::depth_after` meets its contract. Assumes nothing.
use mathlib.Core.Path.{sym, ap, ◌∙◌}
use Prim.Native.Nat.{◌-◌}
use native.Mathlib.Omega.{arith}
use Rattle.runoff.specs.RunoffDepth.{depth}
use Rattle.hydrograph.proofs.Released.{runoff_own, runoff_stays}
use Rattle.sums.proofs.depths.depth_after.Goals as goal

pub returns-then-t-rain : goal.returns-then-t-rain
returns-then-t-rain c =
    c.requires.1.1.1 ∙ runoff_stays c.args.tenths c.args.rain.now c.requires.0 c.requires.1.0 c.args.t (omega arith)

pub returns-then-rain-t : goal.returns-then-rain-t
returns-then-rain-t c =
    let tenths = c.args.tenths in
    let rain = c.args.rain.now in
    c.requires.1.1.1
    ∙ sym (runoff_own tenths rain c.requires.0 c.requires.1.0 (c.args.t - 1) (omega arith))
    ∙ ap (depth tenths) (sym c.if-rain-t.true)
    ∙ runoff_own tenths rain c.requires.0 c.requires.1.0 c.args.t (omega arith)

pub returns : goal.returns
returns c =
    c.depth.ensures ∙ runoff_own c.args.tenths c.args.rain.now c.requires.0 c.requires.1.0 c.args.t (omega arith)
