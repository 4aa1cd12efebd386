-- `fitting::over::over_from` meets its contract. Assumes nothing.
use Rattle.std.proofs.Common.{◌≡◌}
use lib.ListN.{drop}
use Rattle.std.specs.Slice.Iter.{chunks_rest, chunks_size}
use Rattle.sums.specs.Needs.{block_rows}
use Rattle.rows.proofs.Coming.{Coming}
use Rattle.fitting.specs.Needs.{new_after}
use Rattle.fitting.proofs.over.over_from.Given as goal

abbrev pub invariant-loop-block : goal.invariant-loop-block
invariant-loop-block l =
    (chunks_size l.block-iterator ≡ block_rows)
    × ((chunks_rest l.block-iterator ≡ drop l.at l.inflow) × Coming l.level (new_after l.step l.rain l.old l.fresh l.from l.inflow) l.last l.come l.at)
