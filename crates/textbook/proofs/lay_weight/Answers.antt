-- `textbook::lay_weight` meets its contract. Assumes nothing.
use mathlib.Core.Path.{◌≡◌, refl, sym, ap, ◌∙◌}
use Prim.Native.Nat.{ℕ, ◌+◌, ◌-◌, ◌*◌, ◌≤◌, ◌<◌}
use native.Mathlib.Omega.{arith}
use lib.Dec.{eqb}
use lib.ListN.{length, get_or}
use Rattle.laws.specs.Pick.{pick}
use Rattle.laws.specs.Sum.{sum_to}
use Rattle.laws.specs.Listed.{plus}
use Rattle.laws.proofs.Sums.{sum_more}
use Rattle.laws.proofs.Listed.{plus_length, plus_none, plus_same, plus_plus}
use Rattle.textbook.specs.Textbook.{in_row}
use Rattle.textbook.specs.Needs.{steps_to}
use Rattle.textbook.proofs.Pieces.{piece_most, steps_room}
use Rattle.textbook.proofs.lay_weight.Goals as goal
use Rattle.textbook.proofs.lay_weight.Goals.{At-loop-t, Start}

-- the entry, from the head of the loop
abbrev start : At-loop-t → Start
start a = (goal.at.At-loop-t a).Start

-- a piece is small
small : (a : At-loop-t) → a.loop-t.t < length (start a).args.more.now → get_or (start a).args.more.now a.loop-t.t 0 * (start a).args.weight ≤ 30000000000000
small a l = piece_most _ (start a).args.weight ((start a).requires.1.1.1.0.small a.loop-t.t l) (start a).requires.0

pub loop-t-init : goal.loop-t-init
unfolding sum_to
loop-t-init c = (omega arith, plus_none _ c.args.rows.now (λ i l. refl))

pub offset_bounds-more-t : goal.offset_bounds-more-t
offset_bounds-more-t c = omega (arith, (start (goal.at.offset_bounds-more-t c).At-loop-t).requires.1.1.1.0.few)

pub overflow_mul-piece : goal.overflow_mul-piece
overflow_mul-piece c = omega (arith, small (goal.at.overflow_mul-piece c).At-loop-t (omega arith))

pub overflow_add-t : goal.overflow_add-t
overflow_add-t c = omega (arith, (start (goal.at.overflow_add-t c).At-loop-t).requires.1.1.1.0.few)

pub lay_piece-requires : goal.lay_piece-requires
lay_piece-requires c =
    let s = start (goal.at.lay_piece-requires c).At-loop-t in (
      omega (arith, s.requires.1.0),
      (
        small (goal.at.lay_piece-requires c).At-loop-t (omega arith),
        rw c.loop-t.invariant.1 (steps_room s.args.more.now s.requires.1.1.1.0 s.args.weight s.args.j c.loop-t.t s.args.rows.now s.requires.0 s.requires.1.0 s.requires.1.1.0 c.loop-t.invariant.0 s.requires.1.1.1.1),
      ),
    )

pub loop-t-preserved : goal.loop-t-preserved
loop-t-preserved c =
    let s = start (goal.at.loop-t-preserved c).At-loop-t in
    let t = c.loop-t.t in
    let more = s.args.more.now in
    let one : ℕ → ℕ = λ k. pick (eqb (t + 1 + s.args.j - 1) k) (get_or more t 0 * s.args.weight) 0 in
    let back : t + 1 - 1 ≡ t = omega arith in
    let row : t + s.args.j ≡ t + 1 + s.args.j - 1 = omega arith in (
      omega arith,
      c.lay_piece.ensures
          ∙ ap (λ (z : ℕ). plus (λ (k : ℕ). pick (eqb z k) (get_or more t 0 * s.args.weight) 0) 1 c.loop-t.rows) row
          ∙ ap (plus one 1) c.loop-t.invariant.1
          ∙ plus_plus (steps_to more s.args.weight s.args.j t) one 1 s.args.rows.now
          ∙ plus_same _ (steps_to more s.args.weight s.args.j (t + 1)) s.args.rows.now
          (λ i l. sym (rw back at (sum_more (λ u. in_row (1 + i) (u + 1) s.args.j (get_or more (u + 1 - 1) 0 * s.args.weight)) t))),
    )

pub shape_of-rows : goal.shape_of-rows
shape_of-rows c =
    let s = start (goal.at.shape_of-rows c).At-loop-t in
    ap length c.loop-t.invariant.1 ∙ plus_length (steps_to s.args.more.now s.args.weight s.args.j c.loop-t.t) 1 s.args.rows.now

pub returns : goal.returns
returns c =
    let s = start (goal.at.returns c).At-loop-t in
    let all : c.loop-t.t ≡ length s.args.more.now = omega arith in
    c.loop-t.invariant.1 ∙ ap (λ (n : ℕ). plus (steps_to s.args.more.now s.args.weight s.args.j n) 1 s.args.rows.now) all
