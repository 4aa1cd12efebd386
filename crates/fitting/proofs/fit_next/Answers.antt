-- `fitting::fit_next` meets its contract. Assumes nothing.
use mathlib.Core.Path.{ap, ◌∙◌}
use mathlib.Core.List.{List}
use Prim.Native.Nat.{ℕ, ◌+◌, ◌≤◌}
use native.Mathlib.Omega.{arith}
use lib.ListN.{length, replicate}
use lib.Seq.{length-take-le}
use Rattle.sums.specs.Needs.{block_rows}
use Rattle.parts.specs.Needs.{part_by}
use Rattle.fitting.specs.Needs.{fit_under}
use Rattle.fitting.proofs.Fits.{fit_same, zeros_room, zeros_plus}
use Rattle.fitting.proofs.fit_next.Goals as goal
use Rattle.fitting.proofs.fit_next.Goals.{After-add_block, Start}

-- a block has room in the local list
short : (s : Start) → length s.args.inflow.now ≤ block_rows
short s = s.requires.1.1.1.0

pub add_block-requires : goal.add_block-requires
add_block-requires c =
    let n = length c.args.inflow.now in
    let long = length-take-le {A = ℕ} n (replicate block_rows 0) (short (goal.at.add_block-requires c).Start) in
    (c.requires.0, (c.requires.1.0, (zeros_room n (short (goal.at.add_block-requires c).Start), (omega (arith, long, c.requires.1.1), (omega (arith, long, short (goal.at.add_block-requires c).Start), omega (arith, long, c.requires.1.1.1.1))))))

pub returns : goal.returns
returns c =
    let vs = c.args.inflow.now in
    let part = part_by c.args.step c.args.rain.now c.args.old in
    c.fit_block.ensures
    ∙ ap (λ (l : List ℕ). fit_under l vs) c.add_block.ensures
    ∙ fit_same _ (λ i. part (c.args.from + 1 + i)) vs (λ i l. zeros_plus part (c.args.from + 1) (length vs) i l (short (goal.at.returns c).Start))
