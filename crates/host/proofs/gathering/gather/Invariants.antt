-- `host::gathering::gather` meets its contract. The invariant: the flat numbers are `fill_to i` of the list. Assumes nothing.
use Rattle.std.proofs.Common.{◌≡◌}
use Rattle.host.specs.Gathered.{fill_to}
use Rattle.host.proofs.gathering.gather.Given as goal

abbrev pub invariant-loop-i : goal.invariant-loop-i
invariant-loop-i l = l.flat ≡ fill_to l.i l.list
