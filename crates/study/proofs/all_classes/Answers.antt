-- `study::all_classes` meets its contract. Assumes nothing.
use mathlib.Core.Path.{◌≡◌, ap, ◌∙◌}
use native.Mathlib.Omega.{arith}
use borrow.Author.Rules.{rules}
use lib.ListN.{length}
use Rattle.laws.specs.Sum.{sum_to}
use Rattle.curve.specs.CurveNumbers.{classes_of}
use Rattle.subarea.specs.Records.{records_in, patches}
use Rattle.subarea.proofs.Subareas.{record_length, listed_length, listed_at}
use Rattle.study.proofs.Totals.{classes_to, classes_more, room_ok}
use Rattle.study.proofs.all_classes.Goals as goal

pub loop-own-init : goal.loop-own-init
unfolding sum_to
loop-own-init c = search rules

pub classes-requires : goal.classes-requires
classes-requires c =
    let a = listed_at c.records-own-items.ensures c.loop-own-test.true in
    rw a.own (record_length c.args.subareas.now c.requires.0 c.loop-own.own-index a.inside, c.requires.1.each c.loop-own.own-index a.inside)

pub add-sum-requires : goal.add-sum-requires
add-sum-requires c =
    let l = c.args.subareas.now in
    let a = listed_at c.records-own-items.ensures c.loop-own-test.true in
    let turn = c.classes.ensures ∙ ap (λ r. classes_of (patches r)) a.own in
    rw (c.loop-own.invariant, turn) (room_ok l c.requires.0 c.requires.1 c.loop-own.own-index a.inside)

pub loop-own-preserved : goal.loop-own-preserved
loop-own-preserved c =
    let a = listed_at c.records-own-items.ensures c.loop-own-test.true in
    let turn = c.classes.ensures ∙ ap (λ r. classes_of (patches r)) a.own in
    c.add-sum.ensures ∙ rw (c.loop-own.invariant, turn) (classes_more c.args.subareas.now c.loop-own.own-index)

pub returns : goal.returns
returns c =
    let l = c.args.subareas.now in
    let all : c.loop-own.own-index ≡ records_in l = omega (arith, ap length c.records-own-items.ensures, listed_length l) in
    c.loop-own.invariant ∙ ap (classes_to l) all
