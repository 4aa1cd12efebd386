-- `hydrograph::total_weight` meets its contract. Assumes nothing.
use mathlib.Core.Path.{refl}
use native.Mathlib.Omega.{arith}
use Prim.Native.Nat.{◌+◌}
use Rattle.hydrograph.specs.Needs.{hand}
use Rattle.hydrograph.proofs.Weights.{weights_most}
use Rattle.hydrograph.proofs.Hands.{Totalling, totalling_start, total_most, totalling_turn, totalling_end, hand_below, hand_few}
use Rattle.hydrograph.proofs.total_weight.Goals as goal
use Rattle.hydrograph.proofs.total_weight.Goals.{After-sum_of_hand-total}

pub loop-done-init : goal.loop-done-init
loop-done-init c = totalling_start c.args.peak c.args.step c.requires _ refl

pub sum_of_hand-total-requires : goal.sum_of_hand-total-requires
sum_of_hand-total-requires c =
    hand_below c.args.step c.args.peak c.requires c.loop-done.done _ c.fill_weights-line.ensures.1

pub overflow_add-total : goal.overflow_add-total
overflow_add-total c =
    let few = weights_most c.args.step c.args.peak c.requires in
    omega (arith, few, c.loop-done.invariant.at, c.sum_of_hand-total.ensures, total_most c.args.peak c.args.step c.requires c.loop-done.invariant, hand_few c.args.step c.args.peak c.requires c.loop-done.done _ c.fill_weights-line.ensures.1)

-- one hand more is summed
turned : (c : After-sum_of_hand-total) → Totalling c.args.peak c.args.step c.fill_weights-line.new.list c.fill_weights-line.result (c.loop-done.total + c.sum_of_hand-total.result) (c.loop-done.done + hand)
turned c =
    totalling_turn c.args.peak c.args.step c.requires c.loop-done.invariant _ c.fill_weights-line.result c.sum_of_hand-total.result c.loop-done-test.true c.fill_weights-line.ensures.1 c.fill_weights-line.ensures.0 c.sum_of_hand-total.ensures

pub loop-done-preserved : goal.loop-done-preserved
loop-done-preserved c = turned (goal.at.loop-done-preserved c).After-sum_of_hand-total

pub returns : goal.returns
returns c =
    totalling_end c.args.peak c.args.step c.requires c.loop-done.invariant c.loop-done-test.false
