-- `travel::concentration` meets its contract: the sum so far is that of the segments passed. Assumes nothing.
use mathlib.Core.Path.{◌≡◌, refl}
use Prim.Native.Nat.{◌+◌}
use native.Mathlib.Omega.{arith}
use Rattle.laws.specs.Sum.{sum_to}
use Rattle.laws.proofs.Sums.{sum_more}
use Rattle.travel.specs.TravelTime.{segments_in, segment_time_at, concentration}
use Rattle.travel.proofs.Times.{sum_bound}
use Rattle.travel.proofs.Segments.{segment_at}
use Rattle.travel.proofs.concentration.Goals as goal

pub loop-kind-init : goal.loop-kind-init
unfolding sum_to
loop-kind-init c = refl

pub segment_time-sum-requires : goal.segment_time-sum-requires
segment_time-sum-requires c =
    let a = segment_at c.as_chunks.ensures.front c.loop-kind-test.true in
    rw (a.first, a.second, a.third, a.fourth, a.fifth) (c.requires.each c.loop-kind.kind-index a.inside)

pub overflow_add-sum : goal.overflow_add-sum
overflow_add-sum c =
    let i = c.loop-kind.kind-index in
    let a = segment_at c.as_chunks.ensures.front c.loop-kind-test.true in
    rw (c.segment_time-sum.ensures, a.first, a.second, a.third, a.fourth, a.fifth)
    (omega (arith, sum_more (segment_time_at c.args.segments.now) i, sum_bound c.requires (i + 1) (omega (arith, a.inside)), c.requires.most))

pub loop-kind-preserved : goal.loop-kind-preserved
loop-kind-preserved c =
    let a = segment_at c.as_chunks.ensures.front c.loop-kind-test.true in
    rw (c.segment_time-sum.ensures, a.first, a.second, a.third, a.fourth, a.fifth) (omega (arith, sum_more (segment_time_at c.args.segments.now) c.loop-kind.kind-index))

pub returns : goal.returns
unfolding concentration
returns c =
    let all : c.loop-kind.kind-index ≡ segments_in c.args.segments.now = omega (arith, c.as_chunks.ensures.front_len) in
    omega (arith, rw all at c.loop-kind.invariant, c.max.ensures)
