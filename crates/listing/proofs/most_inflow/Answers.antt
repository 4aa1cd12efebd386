-- `listing::most_inflow` meets its contract. Assumes nothing.
use mathlib.Core.Path.{◌≡◌, ap, ◌∙◌}
use mathlib.Core.List.{List}
use Prim.Native.Nat.{ℕ}
use native.Mathlib.Omega.{arith}
use lib.ListN.{length}
use Rattle.curve.specs.CurveNumbers.{ground_of}
use Rattle.curve.specs.declared.Ground.{Ground}
use Rattle.subarea.specs.Records.{record_at, patches}
use Rattle.subarea.proofs.Subareas.{listed_length, listed_at}
use Rattle.inflow.specs.Needs.{most_volume}
use Rattle.inflow.proofs.Inflows.{own_numbers}
use Rattle.listing.proofs.Listing.{run_start, run_turn, run_most, run_end}
use Rattle.listing.proofs.most_inflow.Goals as goal
use Rattle.listing.proofs.most_inflow.Goals.{After-ground-ground}

-- the ground of the subarea at hand
ground_is : (c : After-ground-ground) → c.ground-ground.result ≡ ground_of (patches (record_at c.args.subareas.now c.loop-own.own-index))
ground_is c =
    let a = listed_at c.records-own-items.ensures c.loop-own-test.true in
    c.ground-ground.ensures ∙ ap (λ (r : List ℕ). ground_of (patches r)) a.own

pub loop-own-init : goal.loop-own-init
loop-own-init c = run_start c.args.rain.now c.args.subareas.now

pub ground-ground-requires : goal.ground-ground-requires
ground-ground-requires c =
    let a = listed_at c.records-own-items.ensures c.loop-own-test.true in
    let each = c.requires.0.each c.loop-own.own-index a.inside in
    rw a.own (each.whole, each.patched)

pub most_volume-all-requires : goal.most_volume-all-requires
most_volume-all-requires c =
    let a = listed_at c.records-own-items.ensures c.loop-own-test.true in
    let e = ground_is (goal.at.most_volume-all-requires c).After-ground-ground in
    let own = own_numbers c.args.setup c.args.subareas.now c.requires.0 c.loop-own.own-index a.inside in
    (rw (ap (λ (z : Ground). z.tenths) e) own.curved, (rw (ap (λ (z : Ground). z.area) e) own.area_most, c.requires.1))

pub loop-own-preserved : goal.loop-own-preserved
loop-own-preserved c =
    let rain = c.args.rain.now in
    let a = listed_at c.records-own-items.ensures c.loop-own-test.true in
    run_turn rain c.args.subareas.now c.loop-own.invariant a.inside
    (c.most_volume-all.ensures ∙ ap (λ (z : Ground). most_volume z.tenths z.area rain) (ground_is (goal.at.loop-own-preserved c).After-ground-ground))

pub overflow_add-all : goal.overflow_add-all
overflow_add-all c =
    omega (arith, run_most c.args.rain.now c.args.subareas.now (loop-own-preserved c) c.args.setup c.requires.1 c.requires.0)

pub returns : goal.returns
returns c =
    let l = c.args.subareas.now in
    run_end c.args.rain.now l c.loop-own.invariant (omega (arith, ap length c.records-own-items.ensures, listed_length l))
