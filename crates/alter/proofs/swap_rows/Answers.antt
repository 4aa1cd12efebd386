-- `alter::swap_rows` meets its contract. Assumes nothing.
use mathlib.Core.Path.{◌≡◌, sym, ap, ◌∙◌, subst}
use mathlib.Core.List.{List}
use Prim.Native.Nat.{ℕ, ◌+◌, ◌-◌}
use native.Mathlib.Omega.{arith}
use borrow.Rule.Slice.PartMut.{mid_of}
use Rattle.parts.specs.Needs.{part_by}
use Rattle.alter.specs.Altering.{swapped}
use Rattle.alter.specs.Needs.{PartsFit}
use Rattle.alter.proofs.Blocks.{mid_fits, swapping_start, swapping_due, swapping_turn}
use Rattle.alter.proofs.swap_rows.Goals as goal
use Rattle.alter.proofs.swap_rows.Goals.{At-loop-at, Start}

-- the function's entry, from the head of its loop
abbrev start : At-loop-at → Start
start a = (goal.at.At-loop-at a).Start

-- the parts of the old record and of the fresh one
abbrev old : Start → ℕ → ℕ
old s = part_by s.args.step s.args.rain.now s.args.old

abbrev fresh : Start → ℕ → ℕ
fresh s = part_by s.args.step s.args.rain.now s.args.fresh

pub loop-at-init : goal.loop-at-init
loop-at-init c = swapping_start _ _ _ _

pub swap_in_place-requires-clause-numbers_ok : goal.swap_in_place-requires-clause-numbers_ok
swap_in_place-requires-clause-numbers_ok c =
    let s = start (goal.at.swap_in_place-requires-clause-numbers_ok c).At-loop-at in
    let e = c.min-e.result in
    let ok = s.requires.numbers_ok in
    let fits = mid_fits (old s) s.args.from s.args.inflow.now ok.1.1.1 c.loop-at.at e (omega (arith, c.min-e.ensures)) in
    (ok.0, (ok.1.0, (ok.1.1.0, subst (λ (l : List ℕ). PartsFit (old s) (s.args.from + c.loop-at.at) l) (sym (swapping_due _ _ _ _ c.loop-at.invariant e)) fits)))

pub loop-at-preserved : goal.loop-at-preserved
loop-at-preserved c =
    let s = start (goal.at.loop-at-preserved c).At-loop-at in
    let least = c.min-e in
    let row : s.args.from + c.loop-at.at + 1 ≡ s.args.from + 1 + c.loop-at.at = omega arith in
    swapping_turn _ _ _ _ c.loop-at.invariant least.result c.swap_in_place.new.inflow (omega (arith, least.ensures)) (omega (arith, least.ensures))
    (c.swap_in_place.ensures ∙ ap (λ (k : ℕ). swapped (old s) (fresh s) k (mid_of c.loop-at.at (least.result - c.loop-at.at) c.loop-at.inflow)) row)
