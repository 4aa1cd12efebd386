-- `textbook::lay` meets its contract. Assumes nothing.
use mathlib.Core.Path.{◌≡◌, refl, sym, ap, ◌∙◌}
use Prim.Native.Nat.{ℕ, ◌+◌, ◌-◌, ◌≤◌}
use native.Mathlib.Omega.{arith}
use lib.ListN.{length}
use Rattle.laws.specs.Sum.{sum_to}
use Rattle.laws.specs.Listed.{plus}
use Rattle.laws.proofs.Sums.{sum_more}
use Rattle.laws.proofs.Listed.{plus_length, plus_none, plus_same, plus_plus}
use Rattle.hydrograph.specs.InflowRows.{weight, weight_at, weights, total_weight}
use Rattle.hydrograph.proofs.Weights.{weights_most, in_time, weight_most, total_to}
use Rattle.textbook.specs.Needs.{laid_by, laid_to}
use Rattle.textbook.proofs.Pieces.{laid_room}
use Rattle.textbook.proofs.lay.Goals as goal
use Rattle.textbook.proofs.lay.Goals.{After-lay_weight, After-weight-weight, At-loop-j, Start}

-- the entry, from the head of the loop
abbrev start : At-loop-j → Start
start a = (goal.at.At-loop-j a).Start

-- a weight, as a turn has it
small : (c : After-weight-weight) → c.weight-weight.result ≤ 1000000
small c =
    let s = start (goal.at.After-weight-weight c).At-loop-j in
    rw c.weight-weight.ensures (weight_most s.args.step s.args.peak s.requires.0 (c.loop-j.j + 1) (in_time s.args.step s.args.peak s.requires.0 (c.loop-j.j + 1) (omega arith)))

-- the head of the loop and the weight, from what a turn has worked out
abbrev head : After-lay_weight → At-loop-j
head c = (goal.at.After-lay_weight c).At-loop-j

abbrev own : After-lay_weight → After-weight-weight
own c = (goal.at.After-lay_weight c).After-weight-weight

pub overflow_mul-n : goal.overflow_mul-n
overflow_mul-n c = omega (arith, c.requires.0.step_most, c.requires.0.short)

pub nonzero_div-n : goal.nonzero_div-n
nonzero_div-n c = omega (arith, c.requires.0.step_least)

pub loop-j-init : goal.loop-j-init
unfolding sum_to
loop-j-init c = (omega arith, (refl, plus_none _ c.args.rows.now (λ i l. refl)))

pub overflow_add-j : goal.overflow_add-j
overflow_add-j c = omega (arith, weights_most (start (goal.at.overflow_add-j c).At-loop-j).args.step (start (goal.at.overflow_add-j c).At-loop-j).args.peak (start (goal.at.overflow_add-j c).At-loop-j).requires.0)

pub weight-weight-requires : goal.weight-weight-requires
weight-weight-requires c =
    let s = start (goal.at.weight-weight-requires c).At-loop-j in
    (s.requires.0, in_time s.args.step s.args.peak s.requires.0 (c.loop-j.j + 1) (omega arith))

pub lay_weight-requires : goal.lay_weight-requires
lay_weight-requires c =
    let s = start (goal.at.lay_weight-requires c).At-loop-j in
    let j = c.loop-j.j in
    let back : j + 1 - 1 ≡ j = omega arith in (
      small (goal.at.lay_weight-requires c).After-weight-weight,
      (
        omega arith,
        (
          omega (arith, weights_most s.args.step s.args.peak s.requires.0),
          (s.requires.1.0, rw (back, c.loop-j.invariant.1.1) (laid_room s.args.more.now s.requires.1.0 s.args.step s.args.peak s.requires.0 s.args.rows.now s.requires.1.1 j c.loop-j.invariant.0)),
        ),
      ),
    )

pub overflow_add-total : goal.overflow_add-total
overflow_add-total c =
    let a = head (goal.at.overflow_add-total c).After-lay_weight in
    let s = start a in
    omega (arith, small (own (goal.at.overflow_add-total c).After-lay_weight), weights_most s.args.step s.args.peak s.requires.0, total_to s.args.step s.args.peak s.requires.0 a.loop-j.j a.loop-j.invariant.0, a.loop-j.invariant.1.0)

pub loop-j-preserved : goal.loop-j-preserved
loop-j-preserved c =
    let a = head (goal.at.loop-j-preserved c).After-lay_weight in
    let s = start a in
    let Tp = s.args.peak in
    let D = s.args.step in
    let j = a.loop-j.j in
    let more = s.args.more.now in
    let rows = s.args.rows.now in (
      omega arith,
      (
        omega (arith, (own (goal.at.loop-j-preserved c).After-lay_weight).weight-weight.ensures, a.loop-j.invariant.1.0, sum_more (weight_at Tp D) j),
        c.lay_weight.ensures
            ∙ ap (λ (v : ℕ). plus (laid_by more v (j + 1)) 1 a.loop-j.rows) (own (goal.at.loop-j-preserved c).After-lay_weight).weight-weight.ensures
            ∙ ap (plus (laid_by more (weight Tp D (j + 1)) (j + 1)) 1) a.loop-j.invariant.1.1
            ∙ plus_plus (laid_to more Tp D j) (laid_by more (weight Tp D (j + 1)) (j + 1)) 1 rows
            ∙ plus_same _ (laid_to more Tp D (j + 1)) rows (λ i l. sym (sum_more (λ u. laid_by more (weight Tp D (u + 1)) (u + 1) (1 + i)) j)),
      ),
    )

pub shape_of-rows : goal.shape_of-rows
shape_of-rows c =
    let s = start (goal.at.shape_of-rows c).At-loop-j in
    ap length c.loop-j.invariant.1.1 ∙ plus_length (laid_to s.args.more.now s.args.peak s.args.step c.loop-j.j) 1 s.args.rows.now

pub returns : goal.returns
unfolding total_weight
returns c =
    let s = start (goal.at.returns c).At-loop-j in
    let l = c.loop-j in
    let all : l.j ≡ weights s.args.peak s.args.step = omega arith in
    (l.invariant.1.0 ∙ ap (sum_to (weight_at s.args.peak s.args.step)) all, l.invariant.1.1 ∙ ap (λ (n : ℕ). plus (laid_to s.args.more.now s.args.peak s.args.step n) 1 s.args.rows.now) all)
