-- `fitting::fit_block` meets its contract. Assumes nothing.
use Rattle.rows.specs.Figures.{at}
use Rattle.fitting.proofs.Fits.{Fitting}
use Rattle.fitting.proofs.fit_block.Given as goal

abbrev pub invariant-loop-i : goal.invariant-loop-i
invariant-loop-i l = Fitting (at l.parts) l.inflow l.left l.i
