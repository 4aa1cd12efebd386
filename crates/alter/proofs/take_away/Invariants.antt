-- `alter::take_away` meets its contract. The invariant: the rows passed have their parts taken away, the rows still due are as they were. Assumes nothing.
use Rattle.std.proofs.Common.{ℕ, ◌≡◌, ◌<◌, ◌≤◌, ◌-◌}
use Rattle.rows.specs.Figures.{at}
use Rattle.alter.proofs.take_away.Given as goal

abbrev pub invariant-loop-i : goal.invariant-loop-i
invariant-loop-i l = ((k : ℕ) → k < l.i → at l.rows k ≡ at l.inflow k - at l.initial.rows k) × ((k : ℕ) → l.i ≤ k → at l.rows k ≡ at l.initial.rows k)
