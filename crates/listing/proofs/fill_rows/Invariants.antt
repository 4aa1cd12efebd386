-- `listing::fill_rows` meets its contract. Assumes nothing.
use lib.ListN.{length}
use Rattle.listing.proofs.Listing.{Filling}
use Rattle.listing.proofs.fill_rows.Given as goal

abbrev pub invariant-loop-i : goal.invariant-loop-i
invariant-loop-i l = Filling l.setup l.rain l.subareas (length l.initial.inflow) l.inflow l.outflow l.storage l.i
