-- `parts::add_parts` meets its contract. Assumes nothing.
use mathlib.Core.Path.{◌≡◌, ap, ◌∙◌}
use mathlib.Core.List.{List}
use Prim.Native.Nat.{ℕ, ◌+◌, ◌-◌}
use native.Mathlib.Omega.{arith}
use borrow.Rule.Slice.PartMut.{mid_of, mid_len}
use lib.ListN.{length}
use Rattle.laws.specs.Listed.{plus}
use Rattle.hydrograph.specs.Needs.{RoomOk}
use Rattle.parts.specs.Needs.{part_by}
use Rattle.parts.proofs.Added.{parted_start, parted_length, mid_has, parted_turn, mid_room}
use Rattle.parts.proofs.add_parts.Goals as goal
use Rattle.parts.proofs.add_parts.Goals.{At-loop-at, Start}

-- the function's entry, from the head of its loop
abbrev start : At-loop-at → Start
start a = (goal.at.At-loop-at a).Start

-- the rows are as many as there were
long : (a : At-loop-at) → length a.loop-at.rows ≡ length (start a).args.rows.now
long a = parted_length _ _ _ a.loop-at.invariant

pub loop-at-init : goal.loop-at-init
loop-at-init c = parted_start _ _ _

pub add_block-requires : goal.add_block-requires
add_block-requires c =
    let s = start (goal.at.add_block-requires c).At-loop-at in
    let e = c.min-e.result in
    let due : length (mid_of c.loop-at.at (e - c.loop-at.at) c.loop-at.rows) ≡ e - c.loop-at.at = mid_len c.loop-at.at e c.loop-at.rows (omega (arith, long (goal.at.add_block-requires c).At-loop-at, c.min-e.ensures)) in
    let room : RoomOk (mid_of c.loop-at.at (e - c.loop-at.at) s.args.rows.now) = mid_room s.args.rows.now s.requires.1.1.0 c.loop-at.at e (omega (arith, c.min-e.ensures)) in (
      s.requires.0,
      (
        s.requires.1.0,
        (
          mid_has _ _ _ c.loop-at.invariant (λ (l : List ℕ). RoomOk l) e room,
          (omega (arith, due, c.min-e.ensures), (omega (arith, due, c.min-e.ensures), omega (arith, due, c.min-e.ensures, s.requires.1.1.1))),
        ),
      ),
    )

pub loop-at-preserved : goal.loop-at-preserved
loop-at-preserved c =
    let s = start (goal.at.loop-at-preserved c).At-loop-at in
    let e = c.min-e.result in
    let row : s.args.from + c.loop-at.at + 1 ≡ s.args.from + 1 + c.loop-at.at = omega arith in
    parted_turn _ _ _ c.loop-at.invariant e c.add_block.new.rows (omega (arith, c.min-e.ensures)) (omega (arith, c.min-e.ensures))
    (c.add_block.ensures ∙ ap (λ (k : ℕ). plus (part_by s.args.step s.args.rain.now s.args.own) k (mid_of c.loop-at.at (e - c.loop-at.at) c.loop-at.rows)) row)
