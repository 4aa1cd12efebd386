-- `inflow::add_records` meets its contract. Assumes nothing.
use mathlib.Core.Path.{ap, ◌∙◌}
use mathlib.Core.List.{List}
use Prim.Native.Nat.{ℕ}
use native.Mathlib.Omega.{arith}
use lib.ListN.{length}
use Rattle.laws.specs.Listed.{plus}
use Rattle.subarea.proofs.Subareas.{listed_length, listed_at}
use Rattle.inflow.specs.Inflow.{part_of}
use Rattle.inflow.proofs.Inflows.{own_area, parts_start, parts_turn, parts_room, parts_end}
use Rattle.inflow.proofs.add_records.Goals as goal

pub loop-own-init : goal.loop-own-init
loop-own-init c =
    parts_start c.args.setup c.args.rain.now c.args.subareas.now 1 (length c.args.rows.now) c.requires.1.1.1

pub add_record-requires : goal.add_record-requires
add_record-requires c =
    let l = c.args.subareas.now in
    let i = c.loop-own.own-index in
    let a = listed_at c.records-own-items.ensures c.loop-own-test.true in
    let room = parts_room c.args.setup c.args.rain.now l 1 (length c.args.rows.now) c.loop-own.invariant c.requires.1.0 c.requires.0 c.requires.1.1.0 in
    rw a.own (c.requires.0.each i a.inside, (own_area c.args.setup l c.requires.0 i a.inside, (c.requires.1.0, room)))

pub loop-own-preserved : goal.loop-own-preserved
loop-own-preserved c =
    let g = c.args.setup in
    let rain = c.args.rain.now in
    let turn = c.loop-own in
    let a = listed_at c.records-own-items.ensures c.loop-own-test.true in
    parts_turn g rain c.args.subareas.now 1 (length c.args.rows.now) turn.invariant a.inside
    (c.add_record.ensures ∙ ap (λ (r : List ℕ). plus (part_of g rain r) 1 turn.rows) a.own)

pub returns : goal.returns
returns c =
    let l = c.args.subareas.now in
    parts_end c.args.setup c.args.rain.now l 1 (length c.args.rows.now) c.loop-own.invariant
    (omega (arith, ap length c.records-own-items.ensures, listed_length l))
