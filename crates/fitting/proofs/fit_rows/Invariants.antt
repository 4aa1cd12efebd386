-- `fitting::fit_rows` meets its contract. Assumes nothing.
use Rattle.std.proofs.Common.{◌≡◌, ◌+◌}
use lib.ListN.{drop}
use Rattle.std.specs.Slice.Iter.{chunks_rest, chunks_size}
use Rattle.sums.specs.Needs.{block_rows}
use Rattle.parts.specs.Needs.{part_by}
use Rattle.fitting.proofs.Fits.{Fitting}
use Rattle.fitting.proofs.fit_rows.Given as goal

abbrev pub invariant-loop-block : goal.invariant-loop-block
invariant-loop-block l =
    (chunks_size l.block-iterator ≡ block_rows)
    × ((chunks_rest l.block-iterator ≡ drop l.at l.inflow) × Fitting (λ i. part_by l.step l.rain l.old (i + 1)) l.inflow l.left l.at)
