-- `fitting::over::dry_block` meets its contract. Assumes nothing.
use mathlib.Core.Path.{◌≡◌, sym, ap, ◌∙◌, subst}
use mathlib.Core.List.{List, ◌++◌}
use Prim.Native.Nat.{ℕ, ◌+◌, ◌≤◌}
use native.Mathlib.Omega.{arith}
use lib.ListN.{length, take, length-append}
use lib.Seq.{take_at, length-take-le}
use Rattle.laws.specs.Limits.{most_rows}
use Rattle.sums.specs.Needs.{block_rows}
use Rattle.parts.specs.Needs.{part_by}
use Rattle.rows.specs.Needs.{tide_of, InflowOk}
use Rattle.alter.proofs.Swapping.{swapped_length}
use Rattle.fitting.proofs.over.dry_block.Goals as goal
use Rattle.fitting.proofs.over.dry_block.Goals.{After-swap_block, Start}

-- a block has room in the local list
short : (s : Start) → length s.args.inflow.now ≤ block_rows
short s = s.requires.in_bounds.1

-- the function's entry, once the new inflow is written
abbrev start : After-swap_block → Start
start c = (goal.at.After-swap_block c).Start

-- as many new rows as the block has
written : (c : After-swap_block) → length c.swap_block.new.rows ≡ length (start c).args.inflow.now
written c =
    let s = start c in
    ap length c.swap_block.ensures
    ∙ swapped_length (part_by s.args.step s.args.rain.now s.args.old) (part_by s.args.step s.args.rain.now s.args.fresh) (s.args.from + 1) s.args.inflow.now

-- they stand in the front of the local list
front : (c : After-swap_block) (rest : List ℕ) → take (length (start c).args.inflow.now) (c.swap_block.new.rows ++ rest) ≡ c.swap_block.new.rows
front c rest = take_at c.swap_block.new.rows rest (length (start c).args.inflow.now) (written c)

pub slice_bounds-swap_block-end : goal.slice_bounds-swap_block-end
slice_bounds-swap_block-end c = sym (length-take-le _ _ (short (goal.at.slice_bounds-swap_block-end c).Start))

pub swap_block-requires : goal.swap_block-requires
swap_block-requires c =
    let fit = c.requires.tail_fit in
    record { numbers_ok = (fit.was, (fit.is, (fit.raining, fit.parted))); rows_len = (length-take-le (length c.args.inflow.now) _ (short (goal.at.swap_block-requires c).Start), (c.requires.in_bounds.0, (c.requires.in_bounds.1, fit.few))) }

pub slice_bounds-rows-end-2 : goal.slice_bounds-rows-end-2
slice_bounds-rows-end-2 c = simp length-append (omega (arith, written (goal.at.slice_bounds-rows-end-2 c).After-swap_block))

pub slice_bounds-tide_after-end : goal.slice_bounds-tide_after-end
slice_bounds-tide_after-end c = sym (ap length (front (goal.at.slice_bounds-tide_after-end c).After-swap_block _) ∙ written (goal.at.slice_bounds-tide_after-end c).After-swap_block)

pub tide_after-requires : goal.tide_after-requires
tide_after-requires c =
    let s = start (goal.at.tide_after-requires c).After-swap_block in
    let fit = s.requires.tail_fit in
    let new : InflowOk c.swap_block.new.rows = rw c.swap_block.ensures fit.new in
    subst (λ (l : List ℕ). InflowOk l × (length l ≤ most_rows)) (sym (front (goal.at.tide_after-requires c).After-swap_block _)) (new, omega (arith, written (goal.at.tide_after-requires c).After-swap_block, fit.few))

pub returns : goal.returns
returns c =
    let s = start (goal.at.returns c).After-swap_block in
    c.tide_after.ensures ∙ ap (tide_of s.args.level.now.pond.half s.args.level.now.pond.table.numbers.now s.args.level.now.state) (front (goal.at.returns c).After-swap_block _ ∙ c.swap_block.ensures)
