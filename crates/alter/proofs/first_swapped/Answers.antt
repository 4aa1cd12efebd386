-- `alter::first_swapped` meets its contract. Assumes nothing.
use Rattle.std.proofs.Common.{rules, arith, ◌≡◌, ℕ, ◌++◌, length, None, sym, ap, ◌∙◌}
use lib.ListN.{drop, length-drop}
use Rattle.std.specs.Slice.Iter.{chunks_rest}
use Rattle.parts.specs.Needs.{part_by}
use Rattle.alter.proofs.Blocks.{block_end, rest_is, found_some, front_fits, front_stop, front_turn, unchanged_start, unchanged_end}
use Rattle.alter.proofs.first_swapped.Goals as goal
use Rattle.alter.proofs.first_swapped.Goals.{In-Some}

-- a block comes off the front of the rows still due
parts : (b : In-Some) → drop b.loop-block.at b.args.inflow.now ≡ b.in-Some.block.now ++ chunks_rest b.next.new.self
parts b = sym b.loop-block.invariant.1.0 ∙ b.in-Some.ensures.steps.1.0

-- the parts of the old record and of the fresh one
abbrev old : In-Some → ℕ → ℕ
old b = part_by b.args.step b.args.rain.now b.args.old

abbrev fresh : In-Some → ℕ → ℕ
fresh b = part_by b.args.step b.args.rain.now b.args.fresh

pub loop-block-init : goal.loop-block-init
loop-block-init c = (search rules, (search rules, unchanged_start _ _ _))

pub swap_block-requires-clause-numbers_ok : goal.swap_block-requires-clause-numbers_ok
swap_block-requires-clause-numbers_ok c =
    let b = (goal.at.swap_block-requires-clause-numbers_ok c).In-Some in
    let ok = c.requires.numbers_ok in
    (ok.0, (ok.1.0, (ok.1.1.0, front_fits (old b) (fresh b) c.args.inflow.now c.loop-block.invariant.1.1 c.in-Some.block.now (chunks_rest c.next.new.self) (parts b) ok.1.1.1)))

pub overflow_add-result : goal.overflow_add-result
overflow_add-result c =
    let b = (goal.at.overflow_add-result c).In-Some in
    let vs = c.args.inflow.now in
    let ends = block_end vs c.loop-block.at c.loop-block.invariant.1.1.so_far c.in-Some.block.now (chunks_rest c.next.new.self) (parts b) in
    let found = found_some c.in-Some.block.now c.swap_block.new.rows (sym c.first_difference.ensures ∙ c.in-Some-first_difference.is) in
    omega (arith, ends, found.1, c.requires.inflow_len_bound)

pub returns-in-Some-first_difference : goal.returns-in-Some-first_difference
returns-in-Some-first_difference c =
    let b = (goal.at.returns-in-Some-first_difference c).In-Some in
    front_stop (old b) (fresh b) c.args.inflow.now c.loop-block.invariant.1.1 c.in-Some.block.now (chunks_rest c.next.new.self) (parts b)
    c.swap_block.new.rows c.swap_block.ensures (sym c.first_difference.ensures ∙ c.in-Some-first_difference.is)

pub loop-block-preserved : goal.loop-block-preserved
loop-block-preserved c =
    let b = (goal.at.loop-block-preserved c).In-Some in
    let vs = c.args.inflow.now in
    let so = c.loop-block.invariant.1.1 in
    let none : c.first_difference.result ≡ None = search rules in (
      c.in-Some.ensures.steps.0 ∙ c.loop-block.invariant.0,
      (
        rest_is vs c.loop-block.at so.so_far c.in-Some.block.now (chunks_rest c.next.new.self) (parts b),
        front_turn (old b) (fresh b) vs so c.in-Some.block.now (chunks_rest c.next.new.self) (parts b) c.swap_block.new.rows c.swap_block.ensures (sym c.first_difference.ensures ∙ none),
      ),
    )

pub returns : goal.returns
returns c =
    let l = c.loop-block in
    let vs = c.args.inflow.now in
    let so = l.invariant.1.1 in
    let all : l.at ≡ length vs = omega (arith, so.so_far, length-drop l.at vs, ap length l.invariant.1.0, c.in-None.ensures.steps.1.0) in
    all ∙ unchanged_end _ _ vs so (omega (arith, all))
