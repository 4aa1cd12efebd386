-- `inflow::most_volume` meets its contract. Assumes nothing.
use Prim.Native.Nat.{◌-◌}
use native.Mathlib.Omega.{arith}
use lib.ListN.{length, get_or}
use Rattle.runoff.proofs.Rising.{depth_bound}
use Rattle.inflow.proofs.most_volume.Goals as goal

pub depth-requires : goal.depth-requires
depth-requires c =
    (c.requires.0, c.requires.1.1.limit (length c.args.rain.now - 1) (omega (arith, c.requires.1.1.least)))

pub volume-requires : goal.volume-requires
volume-requires c =
    let rain = c.args.rain.now in
    (c.requires.1.0, rw c.depth.ensures (depth_bound c.args.tenths c.requires.0 (get_or rain (length rain - 1) 0) (c.requires.1.1.limit (length rain - 1) (omega (arith, c.requires.1.1.least)))))
