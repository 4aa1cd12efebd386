-- `checks::list::all_area` meets its contract. Assumes nothing.
use mathlib.Core.Path.{◌≡◌, refl, ap, ◌∙◌}
use native.Mathlib.Omega.{arith}
use lib.ListN.{length}
use Rattle.laws.specs.Sum.{sum_to}
use Rattle.laws.proofs.Sums.{sum_more, sum_most}
use Rattle.curve.specs.declared.Ground.{Ground}
use Rattle.curve.proofs.Mean.{area_most}
use Rattle.subarea.specs.Records.{records_in, record_at, area_of, patches}
use Rattle.subarea.proofs.Subareas.{patches_fit, record_length, listed_length, listed_at}
use Rattle.checks.proofs.list.all_area.Goals as goal

pub loop-own-init : goal.loop-own-init
unfolding sum_to
loop-own-init c = refl

pub ground-sum-requires : goal.ground-sum-requires
ground-sum-requires c =
    let a = listed_at c.records-own-items.ensures c.loop-own-test.true in
    rw a.own (record_length c.args.subareas.now c.requires.0 c.loop-own.own-index a.inside, c.requires.1.each c.loop-own.own-index a.inside)

pub overflow_add-sum : goal.overflow_add-sum
overflow_add-sum c =
    let l = c.args.subareas.now in
    let i = c.loop-own.own-index in
    let a = listed_at c.records-own-items.ensures c.loop-own-test.true in
    let turn = ap (λ (g : Ground). g.area) c.ground-sum.ensures ∙ ap area_of a.own in
    omega (
      arith,
      turn,
      a.inside,
      c.requires.0.most,
      c.loop-own.invariant,
      sum_most (λ k. area_of (record_at l k)) 1600000 i (λ k h. area_most (patches (record_at l k)) (patches_fit (record_at l k) (c.requires.1.each k (omega (arith, h, a.inside))))),
      area_most (patches (record_at l i)) (patches_fit (record_at l i) (c.requires.1.each i a.inside)),
    )

pub loop-own-preserved : goal.loop-own-preserved
loop-own-preserved c =
    let l = c.args.subareas.now in
    let a = listed_at c.records-own-items.ensures c.loop-own-test.true in
    let turn = ap (λ (g : Ground). g.area) c.ground-sum.ensures ∙ ap area_of a.own in
    omega (arith, turn, c.loop-own.invariant, sum_more (λ k. area_of (record_at l k)) c.loop-own.own-index)

pub returns : goal.returns
returns c =
    let l = c.args.subareas.now in
    let all : c.loop-own.own-index ≡ records_in l = omega (arith, ap length c.records-own-items.ensures, listed_length l) in
    c.loop-own.invariant ∙ ap (sum_to (λ k. area_of (record_at l k))) all
