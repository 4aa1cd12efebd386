-- `fitting::fit_rows` meets its contract. Assumes nothing.
use Rattle.std.proofs.Common.{rules, arith, ◌≡◌, ℕ, ◌+◌, ◌≤◌, ◌++◌, length, None, sym, ap, ◌∙◌}
use lib.ListN.{drop, length-drop}
use Rattle.std.specs.Slice.Iter.{chunks_rest}
use Rattle.parts.specs.Needs.{part_by}
use Rattle.alter.proofs.Blocks.{rest_is}
use Rattle.fitting.proofs.Fits.{fit_start, fit_end, block_room, block_turn, block_stop}
use Rattle.fitting.proofs.fit_rows.Goals as goal
use Rattle.fitting.proofs.fit_rows.Goals.{In-Some}

-- a block comes off the front of the rows still due
parts : (b : In-Some) → drop b.loop-block.at b.args.inflow.now ≡ b.in-Some.block.now ++ chunks_rest b.next.new.self
parts b = sym b.loop-block.invariant.1.0 ∙ b.in-Some.ensures.steps.1.0

-- the old record's part of a row from 0, and of a row of the block
abbrev part : In-Some → ℕ → ℕ
part b i = part_by b.args.step b.args.rain.now b.args.old (i + 1)

abbrev later : In-Some → ℕ → ℕ
later b i = part_by b.args.step b.args.rain.now b.args.old (b.loop-block.at + 1 + i)

same : (b : In-Some) (k : ℕ) → later b k ≡ part b (b.loop-block.at + k)
same b k = let e : b.loop-block.at + 1 + k ≡ b.loop-block.at + k + 1 = omega arith in ap (part_by b.args.step b.args.rain.now b.args.old) e

pub loop-block-init : goal.loop-block-init
loop-block-init c = (search rules, (search rules, fit_start _ _))

pub overflow_add-left : goal.overflow_add-left
overflow_add-left c =
    let b = (goal.at.overflow_add-left c).In-Some in
    let l = c.loop-block in
    omega (arith, c.requires.1.1, block_room (part b) c.args.inflow.now l.left l.at l.invariant.1.1 c.in-Some.block.now (chunks_rest c.next.new.self) (parts b) (later b) (λ k h. same b k) c.fit_next-fit.result c.fit_next-fit.ensures)

-- a row of the block does not fit
pub returns-in-Some-bad : goal.returns-in-Some-bad
returns-in-Some-bad c =
    let b = (goal.at.returns-in-Some-bad c).In-Some in
    let l = c.loop-block in
    block_stop (part b) c.args.inflow.now l.left l.at l.invariant.1.1 c.in-Some.block.now (chunks_rest c.next.new.self) (parts b) (later b) (λ k h. same b k) c.fit_next-fit.result c.fit_next-fit.ensures c.in-Some-bad.is

pub loop-block-preserved : goal.loop-block-preserved
loop-block-preserved c =
    let b = (goal.at.loop-block-preserved c).In-Some in
    let l = c.loop-block in
    let vs = c.args.inflow.now in
    let none : c.fit_next-fit.result.bad ≡ None = search rules in (
      c.in-Some.ensures.steps.0 ∙ l.invariant.0,
      (
        rest_is vs l.at l.invariant.1.1.so_far c.in-Some.block.now (chunks_rest c.next.new.self) (parts b),
        block_turn (part b) vs l.left l.at l.invariant.1.1 c.in-Some.block.now (chunks_rest c.next.new.self) (parts b) (later b) (λ k h. same b k) c.fit_next-fit.result c.fit_next-fit.ensures none,
      ),
    )

pub returns : goal.returns
returns c =
    let l = c.loop-block in
    let vs = c.args.inflow.now in
    let all : length vs ≤ l.at = omega (arith, l.invariant.1.1.so_far, length-drop l.at vs, ap length l.invariant.1.0, c.in-None.ensures.steps.1.0) in
    fit_end (λ i. part_by c.args.step c.args.rain.now c.args.old (i + 1)) vs l.left l.at l.invariant.1.1 all
