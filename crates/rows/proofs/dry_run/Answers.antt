-- `rows::dry_run` meets its contract. Assumes nothing.
use mathlib.Core.Path.{◌≡◌, sym, subst}
use Prim.Native.Nat.{◌≤◌}
use native.Mathlib.Omega.{arith}
use lib.ListN.{length}
use Rattle.rows.proofs.Prefix.{passed_most}
use Rattle.pond.specs.PondRows.{last_sum, arrived}
use Rattle.pond.proofs.Steps.{arrive_ok, settled_ok}
use Rattle.pond.specs.declared.State.{State}
use Rattle.rows.specs.Figures.{at}
use Rattle.rows.specs.Needs.{TurnOk}
use Rattle.rows.proofs.Turns.{dry_start, dry_ok, dry_room, dry_turn, dry_most, dry_over, dry_end}
use Rattle.rows.proofs.dry_run.Goals as goal

pub loop-i-init : goal.loop-i-init
loop-i-init c =
    (rw c.none-tally.ensures (dry_start c.args.level.now.pond.sound c.args.level.now.state c.args.inflow.now c.args.level.now.sound c.requires.0 c.requires.1), c.last_sum-top.ensures)

pub arrive-x-requires : goal.arrive-x-requires
arrive-x-requires c =
    let s = c in
    let l = c.loop-i in
    arrive_ok s.args.level.now.pond.sound (dry_ok s.args.level.now.pond.sound s.args.level.now.state s.args.inflow.now s.args.level.now.sound s.requires.0 s.requires.1 l.last l.tally l.i l.invariant.0) (omega (arith, s.requires.0.small l.i (omega arith)))

pub kept-requires : goal.kept-requires
kept-requires c =
    let s = c in
    let l = c.loop-i in
    dry_most s.args.level.now.pond.sound s.args.level.now.state s.args.inflow.now s.args.level.now.sound s.requires.0 s.requires.1 l.last l.tally l.i l.invariant.0

pub returns-then-top-x : goal.returns-then-top-x
returns-then-top-x c =
    let s = c in
    let l = c.loop-i in
    rw c.kept.ensures
    (dry_over s.args.level.now.pond.sound s.args.level.now.state s.args.inflow.now s.args.level.now.sound s.requires.0 s.requires.1 l.last l.tally l.i l.invariant.0
    (omega (arith, c.if-top-x.true, c.arrive-x.ensures, l.invariant.1)) (omega arith))

pub settle-next-requires : goal.settle-next-requires
settle-next-requires c = omega (arith, c.if-top-x.false, c.loop-i.invariant.1)

pub turn-tally-requires : goal.turn-tally-requires
turn-tally-requires c =
    let s = c in
    let l = c.loop-i in
    let x = c.arrive-x.result in
    subst (λ (z : State). TurnOk l.tally s.args.level.now.pond.half (at s.args.inflow.now l.i) l.last.outflow z.outflow) (sym c.settle-next.ensures)
    (dry_room s.args.level.now.pond.sound s.args.level.now.state s.args.inflow.now s.args.level.now.sound s.requires.0 s.requires.1 l.last l.tally l.i l.invariant.0 x (settled_ok s.args.level.now.pond.sound x (let u : x ≤ last_sum c.args.level.now.pond.half c.args.level.now.pond.table.numbers.now = omega (arith, c.if-top-x.false, c.loop-i.invariant.1) in u)) (omega arith))

pub loop-i-preserved : goal.loop-i-preserved
loop-i-preserved c =
    let s = c in
    let l = c.loop-i in
    let over : arrived s.args.level.now.pond.half l.last (at s.args.inflow.now l.i) ≤ last_sum s.args.level.now.pond.half s.args.level.now.pond.table.numbers.now = (let u : c.arrive-x.result ≤ last_sum c.args.level.now.pond.half c.args.level.now.pond.table.numbers.now = omega (arith, c.if-top-x.false, c.loop-i.invariant.1) in rw c.arrive-x.ensures at u) in (
      rw (c.turn-tally.ensures, c.settle-next.ensures, c.arrive-x.ensures)
          (dry_turn s.args.level.now.pond.sound s.args.level.now.state s.args.inflow.now s.args.level.now.sound s.requires.0 s.requires.1 l.last l.tally l.i l.invariant.0 (omega arith) over),
      l.invariant.1,
    )

pub kept-requires-2 : goal.kept-requires-2
kept-requires-2 c =
    let s = c in
    let l = c.loop-i in
    dry_most s.args.level.now.pond.sound s.args.level.now.state s.args.inflow.now s.args.level.now.sound s.requires.0 s.requires.1 l.last l.tally l.i l.invariant.0

pub returns : goal.returns
returns c =
    let s = c.args in
    let l = c.loop-i in
    let ends : length s.inflow.now ≡ l.i = omega (arith, l.invariant.0.so_far, passed_most s.level.now.pond.half s.level.now.pond.table.numbers.now s.level.now.state s.inflow.now) in
    rw (c.kept-2.ensures, ends) (dry_end s.level.now.pond.sound s.level.now.state s.inflow.now s.level.now.sound c.requires.0 c.requires.1 l.last l.tally l.i l.invariant.0 (omega arith))
