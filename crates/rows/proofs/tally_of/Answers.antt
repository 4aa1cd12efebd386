-- `rows::tally_of` meets its contract. Assumes nothing.
use native.Mathlib.Omega.{arith}
use Rattle.rows.proofs.Turns.{tally_start, tally_fits, tally_turn, tally_end}
use Rattle.rows.proofs.tally_of.Goals as goal

pub loop-i-init : goal.loop-i-init
loop-i-init c =
    rw c.none-tally.ensures
    (tally_start c.args.half c.args.inflow.now c.args.outflow.now c.args.storage.now c.args.a c.requires.sums_ok.0 c.requires.sums_ok.1.0 c.requires.sums_ok.1.1 c.requires.a_in_bounds.0)

pub overflow_mul-x : goal.overflow_mul-x
overflow_mul-x c =
    omega (arith, c.requires.sums_ok.0.each c.loop-i.i (omega arith))

pub overflow_add-x : goal.overflow_add-x
overflow_add-x c =
    omega (arith, c.requires.sums_ok.0.each c.loop-i.i (omega arith))

pub turn-tally-requires : goal.turn-tally-requires
turn-tally-requires c =
    let s = c in
    let l = c.loop-i in
    tally_fits s.args.half s.args.inflow.now s.args.outflow.now s.args.storage.now s.args.a s.requires.sums_ok.0 s.requires.sums_ok.1.0 s.requires.sums_ok.1.1 s.requires.a_in_bounds.0
    l.before l.tally l.i l.invariant (omega arith)

pub loop-i-preserved : goal.loop-i-preserved
loop-i-preserved c =
    let s = c in
    let l = c.loop-i in
    rw c.turn-tally.ensures
    (tally_turn s.args.half s.args.inflow.now s.args.outflow.now s.args.storage.now s.args.a s.requires.sums_ok.0 s.requires.sums_ok.1.0 s.requires.sums_ok.1.1 s.requires.a_in_bounds.0
    l.before l.tally l.i l.invariant (omega arith))

pub returns : goal.returns
returns c =
    let s = c in
    let l = c.loop-i in
    tally_end s.args.half s.args.inflow.now s.args.outflow.now s.args.storage.now s.args.a s.requires.sums_ok.0 s.requires.sums_ok.1.0 s.requires.sums_ok.1.1 s.requires.a_in_bounds.0
    l.before l.tally l.i l.invariant (omega arith)
