-- `listing::list_peaks` meets its contract. Assumes nothing.
use Rattle.listing.proofs.Listing.{Listing}
use Rattle.listing.proofs.list_peaks.Given as goal

abbrev pub invariant-loop-i : goal.invariant-loop-i
invariant-loop-i l = Listing l.setup l.subareas l.initial.shapes.peaks l.initial.shapes.totals l.shapes.peaks l.shapes.totals l.i
