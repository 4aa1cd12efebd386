-- `fitting::over::over_from` meets its contract. Assumes nothing.
use Rattle.std.proofs.Common.{rules, arith, ◌≡◌, ℕ, ◌+◌, ◌≤◌, List, ◌++◌, length, None, sym, ap, ◌∙◌, subst, refl}
use lib.ListN.{take, drop, length-drop}
use lib.Seq.{take_at}
use Rattle.std.specs.Slice.Iter.{chunks_rest}
use Rattle.parts.specs.Needs.{part_by}
use Rattle.rows.specs.Needs.{tide_of}
use Rattle.rows.proofs.Coming.{coming_start, coming_ok, coming_arrive, coming_safe, coming_end, coming_less, coming_over, coming_row, coming_turn, tide_from}
use Rattle.alter.proofs.Blocks.{block_end, rest_is}
use Rattle.alter.proofs.Swapping.{swapped_length}
use Rattle.fitting.specs.Needs.{new_after, TailFit}
use Rattle.fitting.proofs.Swaps.{block_new, block_fit}
use Rattle.fitting.proofs.over.over_from.Goals as goal
use Rattle.fitting.proofs.over.over_from.Goals.{After-dry_block-tide, At-loop-block, In-Some, Start}

-- the new inflow rows, as many as there were
abbrev ws : Start → List ℕ
ws s = new_after s.args.step s.args.rain.now s.args.old s.args.fresh s.args.from s.args.inflow.now

long : (s : Start) → length (ws s) ≡ length s.args.inflow.now
long s = swapped_length (part_by s.args.step s.args.rain.now s.args.old) (part_by s.args.step s.args.rain.now s.args.fresh) (s.args.from + 1) s.args.inflow.now

-- a row's place does not wrap
some : (a : At-loop-block) → a.loop-block.at ≤ length a.args.inflow.now
some a = omega (arith, a.loop-block.invariant.1.1.so_far, long (goal.at.At-loop-block a).Start)

few : (a : At-loop-block) → a.loop-block.at ≤ 2000
few a = omega (arith, some a, a.requires.tail_fit.few)

-- a block comes off the front of the rows still due, and ends at a row, or their number
parts : (b : In-Some) → drop b.loop-block.at b.args.inflow.now ≡ b.in-Some.block.now ++ chunks_rest b.next.new.self
parts b = sym b.loop-block.invariant.1.0 ∙ b.in-Some.ensures.steps.1.0

front : (b : In-Some) → take (length b.in-Some.block.now) (drop b.loop-block.at b.args.inflow.now) ≡ b.in-Some.block.now
front b = ap (take (length b.in-Some.block.now)) (parts b) ∙ take_at b.in-Some.block.now (chunks_rest b.next.new.self) (length b.in-Some.block.now) refl

ends : (b : In-Some) → b.loop-block.at + length b.in-Some.block.now ≤ length (ws (goal.at.In-Some b).Start)
ends b =
    omega (arith, long (goal.at.In-Some b).Start, block_end b.args.inflow.now b.loop-block.at (some (goal.at.In-Some b).At-loop-block) b.in-Some.block.now (chunks_rest b.next.new.self) (parts b))

-- where a block was run dry
abbrev start : After-dry_block-tide → Start
start d = (goal.at.After-dry_block-tide d).Start

abbrev taken : After-dry_block-tide → In-Some
taken d = (goal.at.After-dry_block-tide d).In-Some

-- its new inflow is a part of the rows'
tide_is : (d : After-dry_block-tide)
    → d.dry_block-tide.result ≡ tide_of d.args.level.now.pond.half d.args.level.now.pond.table.numbers.now d.loop-block.last (take (length d.in-Some.block.now) (drop d.loop-block.at (ws (start d))))
tide_is d =
    tide_from d.new.result d.new.ensures.pond d.new.ensures.state
    (ap (new_after d.args.step d.args.rain.now d.args.old d.args.fresh (d.args.from + d.loop-block.at)) (sym (front (taken d)))
    ∙ block_new d.args.step d.args.rain.now d.args.level.now.pond.table.numbers.now d.args.old d.args.fresh d.args.from d.loop-block.at (length d.in-Some.block.now) d.args.inflow.now)
    d.dry_block-tide.ensures

pub loop-block-init : goal.loop-block-init
loop-block-init c =
    (search rules, (search rules, coming_start c.args.level.now (ws (goal.at.loop-block-init c).Start) c.args.all c.requires.all_bound.0 c.requires.all_bound.1))

pub arrive-requires : goal.arrive-requires
arrive-requires c = coming_arrive c.args.level.now _ c.loop-block.invariant.1.1

-- no later row can go over
pub returns-then-arrive-top-clause-value : goal.returns-then-arrive-top-clause-value
returns-then-arrive-top-clause-value c =
    sym (coming_safe c.args.level.now _ c.loop-block.invariant.1.1 (omega (arith, c.if-arrive-top.true, c.arrive.ensures, c.last_sum-top.ensures)))

pub new-requires : goal.new-requires
new-requires c = coming_ok c.args.level.now _ c.loop-block.invariant.1.1

pub overflow_add-from : goal.overflow_add-from
overflow_add-from c = omega (arith, few (goal.at.overflow_add-from c).At-loop-block, c.requires.tail_fit.few)

pub dry_block-tide-requires-clause-tail_fit : goal.dry_block-tide-requires-clause-tail_fit
dry_block-tide-requires-clause-tail_fit c =
    let b = (goal.at.dry_block-tide-requires-clause-tail_fit c).In-Some in
    let pond = c.new.ensures.pond in
    let fit = block_fit c.args.step c.args.rain.now c.args.level.now.pond.table.numbers.now c.args.old c.args.fresh c.args.from c.loop-block.at (length c.in-Some.block.now) c.args.inflow.now c.requires.tail_fit (some (goal.at.In-Some b).At-loop-block) in
    rw pond (subst (λ (l : List ℕ). TailFit c.args.step c.args.rain.now c.args.level.now.pond.table.numbers.now c.args.old c.args.fresh (c.args.from + c.loop-block.at) l) (front b) fit)

-- a row of the block goes over
pub overflow_add-result : goal.overflow_add-result
overflow_add-result c =
    let d = (goal.at.overflow_add-result c).After-dry_block-tide in
    omega (arith, coming_row d.args.level.now (ws (start d)) d.loop-block.invariant.1.1 (length d.in-Some.block.now) _ refl (ends (taken d)) (tide_is d) c.in-Some-over.is, long (start d), d.requires.tail_fit.few)

pub returns-in-Some-over-clause-value : goal.returns-in-Some-over-clause-value
returns-in-Some-over-clause-value c =
    let d = (goal.at.returns-in-Some-over-clause-value c).After-dry_block-tide in
    sym (coming_over d.args.level.now (ws (start d)) d.loop-block.invariant.1.1 (length d.in-Some.block.now) _ refl (ends (taken d)) (tide_is d) c.in-Some-over.is)

pub returns-in-Some-over-clause-row : goal.returns-in-Some-over-clause-row
returns-in-Some-over-clause-row c =
    let d = (goal.at.returns-in-Some-over-clause-row c).After-dry_block-tide in
    omega (arith, coming_row d.args.level.now (ws (start d)) d.loop-block.invariant.1.1 (length d.in-Some.block.now) _ refl (ends (taken d)) (tide_is d) c.in-Some-over.is, long (start d))

pub overflow_sub-come : goal.overflow_sub-come
overflow_sub-come c =
    let d = (goal.at.overflow_sub-come c).After-dry_block-tide in
    coming_less d.args.level.now (ws (start d)) d.loop-block.invariant.1.1 (length d.in-Some.block.now) _ refl (ends (taken d)) (tide_is d)

pub loop-block-preserved : goal.loop-block-preserved
loop-block-preserved c =
    let d = (goal.at.loop-block-preserved c).After-dry_block-tide in
    let l = c.loop-block in
    let none : c.dry_block-tide.result.over ≡ None = search rules in (
      c.in-Some.ensures.steps.0 ∙ l.invariant.0,
      (
        rest_is c.args.inflow.now l.at (some (goal.at.After-dry_block-tide d).At-loop-block) c.in-Some.block.now (chunks_rest c.next.new.self) (parts (taken d)),
        coming_turn d.args.level.now (ws (start d)) l.invariant.1.1 (length c.in-Some.block.now) _ refl (ends (taken d)) (tide_is d) none,
      ),
    )

pub returns-clause-value : goal.returns-clause-value
returns-clause-value c =
    let l = c.loop-block in
    let s = (goal.at.returns-clause-value c).Start in
    let all : length (ws s) ≤ l.at = omega (arith, some (goal.at.returns-clause-value c).At-loop-block, length-drop l.at c.args.inflow.now, ap length l.invariant.1.0, c.in-None.ensures.steps.1.0, long s) in
    sym (coming_end c.args.level.now _ l.invariant.1.1 all)
