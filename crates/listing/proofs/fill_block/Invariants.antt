-- `listing::fill_block` meets its contract. Assumes nothing.
use Prim.Native.Nat.{◌+◌}
use lib.ListN.{length}
use Rattle.inflow.proofs.Inflows.{PartsIn}
use Rattle.listing.proofs.fill_block.Given as goal

abbrev pub invariant-loop-i : goal.invariant-loop-i
invariant-loop-i l = PartsIn l.setup l.rain l.subareas (l.from + 1) (length l.initial.rows) l.rows l.i
