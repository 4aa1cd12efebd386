-- `listing::most_inflow` meets its contract. Assumes nothing.
use Rattle.listing.proofs.Listing.{Running}
use Rattle.listing.proofs.most_inflow.Given as goal

abbrev pub invariant-loop-own : goal.invariant-loop-own
invariant-loop-own l = Running l.rain l.subareas l.all l.own-index
