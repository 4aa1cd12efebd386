-- `guarded::ponds::last_row` routes through good states only.
use native.Mathlib.Omega.{arith}
use Rattle.pond.proofs.Steps.{arrive_ok}
use Rattle.guarded.proofs.ponds.last_row.Goals as goal

pub arrive-sum-requires : goal.arrive-sum-requires
arrive-sum-requires c = arrive_ok c.args.pond.now.sound c.loop-volume.invariant (omega arith)
