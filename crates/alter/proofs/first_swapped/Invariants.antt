-- `alter::first_swapped` meets its contract. Assumes nothing.
use Rattle.std.proofs.Common.{◌≡◌}
use lib.ListN.{drop}
use Rattle.std.specs.Slice.Iter.{chunks_rest, chunks_size}
use Rattle.sums.specs.Needs.{block_rows}
use Rattle.parts.specs.Needs.{part_by}
use Rattle.alter.proofs.Blocks.{Unchanged}
use Rattle.alter.proofs.first_swapped.Given as goal

abbrev pub invariant-loop-block : goal.invariant-loop-block
invariant-loop-block l =
    (chunks_size l.block-iterator ≡ block_rows)
    × ((chunks_rest l.block-iterator ≡ drop l.at l.inflow) × Unchanged (part_by l.step l.rain l.old) (part_by l.step l.rain l.fresh) l.inflow l.at)
