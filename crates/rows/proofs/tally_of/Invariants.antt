-- `rows::tally_of` meets its contract. Assumes nothing.
use Rattle.rows.proofs.Turns.{Tallying}
use Rattle.rows.proofs.tally_of.Given as goal

abbrev pub invariant-loop-i : goal.invariant-loop-i
invariant-loop-i l = Tallying l.half l.inflow l.outflow l.storage l.a l.before l.tally l.i
