-- `rows::write_tail` meets its contract: each row is tallied as it is routed. Assumes nothing.
use native.Mathlib.Omega.{arith}
use Rattle.pond.proofs.Steps.{arrive_ok}
use Rattle.rows.proofs.Writes.{write_start, write_ok, write_top, write_room, write_turn, write_end}
use Rattle.rows.proofs.write_tail.Goals as goal

pub loop-i-init : goal.loop-i-init
loop-i-init c =
    write_start c.args.level.now.pond.sound c.args.earlier c.args.a c.args.level.now.state c.args.inflow.now c.args.level.now.sound c.requires.room.0 c.requires.room.1 c.requires.passes
    c.args.outflow.now c.args.storage.now c.requires.lengths.0 c.requires.lengths.1

pub arrive-x-requires : goal.arrive-x-requires
arrive-x-requires c =
    let s = c in
    let l = c.loop-i in
    arrive_ok s.args.level.now.pond.sound (write_ok s.args.level.now.pond.sound s.args.earlier s.args.a s.args.level.now.state s.args.inflow.now s.args.level.now.sound s.requires.room.0 s.requires.room.1 s.requires.passes
    l.outflow l.storage l.last l.tally l.i l.invariant) (omega (arith, s.requires.room.0.small l.i (omega arith)))

pub settle-next-requires : goal.settle-next-requires
settle-next-requires c =
    let s = c in
    let l = c.loop-i in
    rw c.arrive-x.ensures (write_top s.args.level.now.pond.sound s.args.earlier s.args.a s.args.level.now.state s.args.inflow.now s.args.level.now.sound s.requires.room.0 s.requires.room.1 s.requires.passes
    l.outflow l.storage l.last l.tally l.i l.invariant (omega arith))

pub turn-tally-requires : goal.turn-tally-requires
turn-tally-requires c =
    let s = c in
    let l = c.loop-i in
    rw (c.settle-next.ensures, c.arrive-x.ensures)
    (write_room s.args.level.now.pond.sound s.args.earlier s.args.a s.args.level.now.state s.args.inflow.now s.args.level.now.sound s.requires.room.0 s.requires.room.1 s.requires.passes
    l.outflow l.storage l.last l.tally l.i l.invariant (omega arith))

pub loop-i-preserved : goal.loop-i-preserved
loop-i-preserved c =
    let s = c in
    let l = c.loop-i in
    rw (c.turn-tally.ensures, c.settle-next.ensures, c.arrive-x.ensures)
    (write_turn s.args.level.now.pond.sound s.args.earlier s.args.a s.args.level.now.state s.args.inflow.now s.args.level.now.sound s.requires.room.0 s.requires.room.1 s.requires.passes
    l.outflow l.storage l.last l.tally l.i l.invariant (omega arith))

-- what it leaves is as long as what it was lent
pub shape_of-outflow : goal.shape_of-outflow
shape_of-outflow c = omega (arith, c.loop-i.invariant.out_long, c.requires.lengths.0)

pub shape_of-storage : goal.shape_of-storage
shape_of-storage c = omega (arith, c.loop-i.invariant.held_long, c.requires.lengths.1)

pub returns : goal.returns
returns c =
    let s = c in
    let l = c.loop-i in
    let e = write_end s.args.level.now.pond.sound s.args.earlier s.args.a s.args.level.now.state s.args.inflow.now s.args.level.now.sound s.requires.room.0 s.requires.room.1 s.requires.passes
    l.outflow l.storage l.last l.tally l.i l.invariant (omega arith) in
    record { value = e.0; outflow_after = e.1.0; storage_after = e.1.1 }
