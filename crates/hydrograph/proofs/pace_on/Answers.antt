-- `hydrograph::pace_on` meets its contract. Assumes nothing.
use native.Mathlib.Omega.{arith}
use Rattle.hydrograph.proofs.Pens.{pace_rises, pace_falls}
use Rattle.hydrograph.proofs.pace_on.Goals as goal

pub returns-then-y0-y1 : goal.returns-then-y0-y1
returns-then-y0-y1 c =
    pace_rises c.args.left c.args.length c.args.step c.args.y0 c.args.y1 c.requires.0 c.requires.1.0 c.if-y0-y1.true c.requires.1.1.1

pub returns : goal.returns
returns c =
    pace_falls c.args.left c.args.length c.args.step c.args.y0 c.args.y1 c.requires.0 (omega arith)
