-- `listing::over::over_row` meets its contract. Assumes nothing.
use Prim.Native.Nat.{◌-◌}
use Rattle.rows.proofs.Coming.{Coming}
use Rattle.inflow.specs.Inflow.{inflow_rows}
use Rattle.listing.proofs.over.over_row.Given as goal

abbrev pub invariant-loop-from : goal.invariant-loop-from
invariant-loop-from l = Coming l.level (inflow_rows l.setup l.rain l.subareas l.m) l.last l.come l.from

abbrev pub decreases-loop-from : goal.decreases-loop-from
decreases-loop-from l = l.m - l.from
