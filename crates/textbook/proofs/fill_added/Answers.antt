-- `textbook::fill_added` meets its contract. Assumes nothing.
use mathlib.Core.Path.{◌≡◌, sym, ap, ◌∙◌}
use Prim.Native.Nat.{ℕ, ◌+◌, ◌-◌}
use native.Mathlib.Omega.{arith}
use lib.ListN.{length, length-set}
use Rattle.laws.proofs.Fill.{filled_none, filled_more}
use Rattle.textbook.specs.Textbook.{runoff_of, added}
use Rattle.textbook.proofs.Laid.{added_is, runoff_start, runoff_up}
use Rattle.textbook.proofs.fill_added.Goals as goal
use Rattle.textbook.proofs.fill_added.Goals.{After-depth-through, At-loop-t, Start}

-- the head of the loop, from what a turn has worked out; the entry, from that head
abbrev head : After-depth-through → At-loop-t
head c = (goal.at.After-depth-through c).At-loop-t

abbrev start : At-loop-t → Start
start a = (goal.at.At-loop-t a).Start

pub loop-t-init : goal.loop-t-init
loop-t-init c =
    (omega arith, (omega (arith, c.requires.1.0.least), (c.requires.1.1.1, (sym (runoff_start c.args.tenths c.args.rain.now c.requires.0 c.requires.1.0), filled_none _ _))))

pub offset_bounds-rain-t : goal.offset_bounds-rain-t
offset_bounds-rain-t c = omega (arith, (start (goal.at.offset_bounds-rain-t c).At-loop-t).requires.1.1.0)

pub depth-through-requires : goal.depth-through-requires
depth-through-requires c =
    ((start (goal.at.depth-through-requires c).At-loop-t).requires.0, (start (goal.at.depth-through-requires c).At-loop-t).requires.1.0.limit c.loop-t.t (omega arith))

pub overflow_sub-list : goal.overflow_sub-list
overflow_sub-list c =
    let s = start (head (goal.at.overflow_sub-list c).After-depth-through) in
    let l = (head (goal.at.overflow_sub-list c).After-depth-through).loop-t in
    let e : l.t - 1 + 1 ≡ l.t = omega (arith, l.invariant.0) in
    omega (arith, c.depth-through.ensures, l.invariant.1.1.1.0, rw e at (runoff_up s.args.tenths s.args.rain.now s.requires.0 s.requires.1.0 (l.t - 1) (omega (arith, l.invariant.0))))

pub overflow_sub-list-in-loop-t : goal.overflow_sub-list-in-loop-t
overflow_sub-list-in-loop-t c = omega (arith, (head (goal.at.overflow_sub-list-in-loop-t c).After-depth-through).loop-t.invariant.0)

pub offset_bounds-list-t : goal.offset_bounds-list-t
offset_bounds-list-t c = omega (arith, (start (head (goal.at.offset_bounds-list-t c).After-depth-through)).requires.1.1.0)

pub bounds-list-t : goal.bounds-list-t
bounds-list-t c = omega (arith, (start (head (goal.at.bounds-list-t c).After-depth-through)).requires.1.1.0)

pub loop-t-preserved : goal.loop-t-preserved
loop-t-preserved c =
    let s = start (head (goal.at.loop-t-preserved c).After-depth-through) in
    let l = (head (goal.at.loop-t-preserved c).After-depth-through).loop-t in
    let tenths = s.args.tenths in
    let rain = s.args.rain.now in
    let back : l.t + 1 - 1 ≡ l.t - 1 + 1 = omega (arith, l.invariant.0) in
    let here : l.t + 1 - 1 ≡ l.t = omega arith in
    let own = added_is tenths rain l.t c.depth-through.result l.before l.invariant.0 c.depth-through.ensures l.invariant.1.1.1.0 in (
      omega arith,
      (
        omega arith,
        (
          simp length-set l.invariant.1.1.0,
          (
            c.depth-through.ensures ∙ ap (λ (z : ℕ). runoff_of tenths rain z) (sym here),
            rw back (filled_more (λ i. added tenths rain (i + 1)) (l.t - 1) l.list _ (omega (arith, l.invariant.0, l.invariant.1.1.0, s.requires.1.1.0)) l.invariant.1.1.1.1 own),
          ),
        ),
      ),
    )

pub returns : goal.returns
returns c =
    let l = c.loop-t in
    let all : l.t - 1 ≡ length c.args.rain.now - 1 = omega arith in
    (rw (← all) l.invariant.1.1.1.1, l.invariant.1.1.0)
