-- `rows::write_tail` meets its contract: each row is tallied as it is routed. Assumes nothing.
use Rattle.rows.proofs.Writes.{Writing}
use Rattle.rows.proofs.write_tail.Given as goal

abbrev pub invariant-loop-i : goal.invariant-loop-i
invariant-loop-i l = Writing l.level.pond.half l.level.pond.table.numbers.now l.initial.tally l.a l.initial.last l.inflow l.outflow l.storage l.last l.tally l.i
