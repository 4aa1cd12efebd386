-- `inflow::add_records` meets its contract. Assumes nothing.
use lib.ListN.{length}
use Rattle.inflow.proofs.Inflows.{PartsIn}
use Rattle.inflow.proofs.add_records.Given as goal

abbrev pub invariant-loop-own : goal.invariant-loop-own
invariant-loop-own l = PartsIn l.setup l.rain l.subareas 1 (length l.initial.rows) l.rows l.own-index
