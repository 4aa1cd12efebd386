-- `textbook::add_parts` meets its contract. Assumes nothing.
use mathlib.Core.Path.{◌≡◌, refl, ap, ◌∙◌}
use Prim.Native.Nat.{ℕ, ◌+◌, ◌*◌, ◌/◌, ◌≤◌, ◌<◌}
use native.Mathlib.Nat.{div-le_of_le-mul}
use native.Mathlib.Omega.{arith}
use lib.ListN.{length, get_or}
use Rattle.laws.specs.Sum.{sum_to}
use Rattle.laws.proofs.Sums.{sum_more}
use Rattle.laws.proofs.Listed.{adding_start, row_due, adding_turn, adding_end}
use Rattle.hydrograph.specs.InflowRows.{volume_of}
use Rattle.textbook.specs.Needs.{through_of}
use Rattle.textbook.proofs.Pieces.{through_none, through_rises, volume_small, part_turn}
use Rattle.textbook.proofs.add_parts.Invariants.{sum_of}
use Rattle.textbook.proofs.add_parts.Goals as goal
use Rattle.textbook.proofs.add_parts.Goals.{After-volume-through, At-loop-i, Start}

-- the entry, from the head of the loop
abbrev start : At-loop-i → Start
start a = (goal.at.At-loop-i a).Start

-- the sum through the row
sum_is : (a : At-loop-i) → a.loop-i.sum + get_or (start a).args.laid.now a.loop-i.i 0 ≡ sum_of (start a).args.laid.now (a.loop-i.i + 1)
sum_is a = omega (arith, a.loop-i.invariant.0, sum_more (λ i. get_or (start a).args.laid.now i 0) a.loop-i.i)

-- and what it is at most
sum_small : (a : At-loop-i) → a.loop-i.i < length (start a).args.rows.now → a.loop-i.sum + get_or (start a).args.laid.now a.loop-i.i 0 ≤ 30000000 * (start a).args.total
sum_small a l = omega (arith, sum_is a, (start a).requires.1.0.each (a.loop-i.i + 1) (omega (arith, (start a).requires.1.1.0)))

deep : (a : At-loop-i) → a.loop-i.i < length (start a).args.rows.now → (a.loop-i.sum + get_or (start a).args.laid.now a.loop-i.i 0) / (start a).args.total ≤ 30000000
deep a l = div-le_of_le-mul (start a).args.total (omega (arith, sum_small a l))

-- the head of the loop, from what a turn has worked out
abbrev head : After-volume-through → At-loop-i
head c = (goal.at.After-volume-through c).At-loop-i

-- the volume through the row
through_is : (c : After-volume-through) → c.volume-through.result ≡ through_of (start (head c)).args.area (start (head c)).args.total (start (head c)).args.laid.now ((head c).loop-i.i + 1)
through_is c =
    let a = head c in
    c.volume-through.ensures ∙ ap (λ (z : ℕ). volume_of (start a).args.area (z / (start a).args.total)) (sum_is a)

inside : (c : After-volume-through) → (head c).loop-i.i < length (start (head c)).args.rows.now
inside c = omega (arith, (head c).loop-i.invariant.1.1.long)

pub loop-i-init : goal.loop-i-init
unfolding sum_to
loop-i-init c =
    (refl, (through_none c.args.area c.args.total c.args.laid.now, adding_start _ _))

pub offset_bounds-laid-i : goal.offset_bounds-laid-i
offset_bounds-laid-i c = omega (arith, (start (goal.at.offset_bounds-laid-i c).At-loop-i).requires.1.1.0, (start (goal.at.offset_bounds-laid-i c).At-loop-i).requires.1.1.1.most, c.loop-i.invariant.1.1.long)

pub bounds-laid-i : goal.bounds-laid-i
bounds-laid-i c = omega (arith, (start (goal.at.bounds-laid-i c).At-loop-i).requires.1.1.0, c.loop-i.invariant.1.1.long)

pub overflow_add-sum : goal.overflow_add-sum
overflow_add-sum c = omega (arith, sum_small (goal.at.overflow_add-sum c).At-loop-i (omega (arith, c.loop-i.invariant.1.1.long)), (start (goal.at.overflow_add-sum c).At-loop-i).requires.1.0.most)

pub nonzero_div-sum : goal.nonzero_div-sum
nonzero_div-sum c = (start (goal.at.nonzero_div-sum c).At-loop-i).requires.1.0.some

pub volume-through-requires : goal.volume-through-requires
volume-through-requires c = ((start (goal.at.volume-through-requires c).At-loop-i).requires.0, deep (goal.at.volume-through-requires c).At-loop-i (omega (arith, c.loop-i.invariant.1.1.long)))

pub overflow_sub-rows : goal.overflow_sub-rows
overflow_sub-rows c =
    let a = head (goal.at.overflow_sub-rows c).After-volume-through in
    let s = start a in
    omega (arith, through_is (goal.at.overflow_sub-rows c).After-volume-through, a.loop-i.invariant.1.0, through_rises s.args.area s.args.total s.args.laid.now a.loop-i.i s.requires.1.0.some)

pub offset_bounds-rows-i : goal.offset_bounds-rows-i
offset_bounds-rows-i c = omega (arith, inside (goal.at.offset_bounds-rows-i c).After-volume-through, (start (head (goal.at.offset_bounds-rows-i c).After-volume-through)).requires.1.1.1.most)

pub bounds-rows-i : goal.bounds-rows-i
bounds-rows-i c = omega (arith, inside (goal.at.bounds-rows-i c).After-volume-through, (head (goal.at.bounds-rows-i c).After-volume-through).loop-i.invariant.1.1.long)

pub overflow_add-rows : goal.overflow_add-rows
overflow_add-rows c =
    let a = head (goal.at.overflow_add-rows c).After-volume-through in
    let s = start a in
    omega (
      arith,
      row_due _ _ a.loop-i.invariant.1.1,
      s.requires.1.1.1.room a.loop-i.i (inside (goal.at.overflow_add-rows c).After-volume-through),
      c.volume-through.ensures,
      volume_small s.args.area _ (deep a (inside (goal.at.overflow_add-rows c).After-volume-through)),
      s.requires.0,
    )

pub bounds-rows-i-in-loop-i : goal.bounds-rows-i-in-loop-i
bounds-rows-i-in-loop-i c = omega (arith, inside (goal.at.bounds-rows-i-in-loop-i c).After-volume-through, (head (goal.at.bounds-rows-i-in-loop-i c).After-volume-through).loop-i.invariant.1.1.long)

pub loop-i-smaller : goal.loop-i-smaller
loop-i-smaller c = omega (arith, inside (goal.at.loop-i-smaller c).After-volume-through)

pub loop-i-preserved : goal.loop-i-preserved
loop-i-preserved c =
    let a = head (goal.at.loop-i-preserved c).After-volume-through in
    let s = start a in
    let i = a.loop-i.i in (
      sum_is a,
      (
        through_is (goal.at.loop-i-preserved c).After-volume-through,
        adding_turn _ _ a.loop-i.invariant.1.1 (inside (goal.at.loop-i-preserved c).After-volume-through) (part_turn s.args.area s.args.total s.args.laid.now i _ _ _ _ (row_due _ _ a.loop-i.invariant.1.1) (through_is (goal.at.loop-i-preserved c).After-volume-through) a.loop-i.invariant.1.0),
      ),
    )

pub shape_of-rows : goal.shape_of-rows
shape_of-rows c = c.loop-i.invariant.1.1.long

pub returns : goal.returns
returns c = adding_end _ _ c.loop-i.invariant.1.1 (omega (arith, c.loop-i.invariant.1.1.long))
