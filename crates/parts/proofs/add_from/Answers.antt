-- `parts::add_from` meets its contract. Assumes nothing.
use mathlib.Core.Path.{◌≡◌, refl, ap, ◌∙◌}
use mathlib.Core.List.{List, ◌++◌}
use Prim.Native.Nat.{ℕ, ◌+◌, ◌-◌, ◌≤◌, ◌<◌, min}
use native.Mathlib.Omega.{arith}
use borrow.Rule.Slice.PartMut.{mid_of, mid_len}
use lib.ListN.{length, drop}
use Rattle.laws.specs.Limits.{most_rows}
use Rattle.laws.specs.Listed.{plus}
use Rattle.hydrograph.specs.Needs.{RainOk, RoomOk}
use Rattle.hydrograph.proofs.Weights.{weights_most}
use Rattle.sums.specs.Needs.{NumbersOk}
use Rattle.parts.specs.Needs.{part_by}
use Rattle.parts.proofs.Added.{Parted, parted_front, mid_has, parted_turn, parted_end, mid_room}
use Rattle.parts.proofs.Through.{many, late_part}
use Rattle.parts.proofs.add_from.Goals as goal
use Rattle.parts.proofs.add_from.Goals.{After-add_parts-2, After-min-end, Start}

-- how many rows are worked out by blocks
abbrev lead : Start → ℕ
lead s = many s.args.step s.args.rain.now s.args.own + 8

abbrev part : Start → ℕ → ℕ
part s = part_by s.args.step s.args.rain.now s.args.own

-- there are at most 512 weights
few : (s : Start) → lead s ≤ 520
few s = omega (arith, weights_most s.args.step s.args.own.peak s.requires.numbers_ok.0.timed)

-- the function's entry, once it is known where the rows' parts end
abbrev start : After-min-end → Start
start c = (goal.at.After-min-end c).Start

-- where they end
abbrev Ends : Start → ℕ → Type 0
Ends s e = e ≡ min (length s.args.rows.now) (length s.args.rain.now + many s.args.step s.args.rain.now s.args.own - s.args.from)

ends : (c : After-min-end) → Ends (start c) c.min-end.result
ends c =
    let s = start c in
    c.min-end.ensures ∙ ap (min (length s.args.rows.now)) c.saturating_sub.ensures

-- no row from there on has one
late : (s : Start) (e : ℕ) → Ends s e → (j : ℕ) → e ≤ j → j < length s.args.rows.now → part s (s.args.from + 1 + j) ≡ 0
late s e q j lo hi =
    late_part s.args.step s.args.rain.now s.args.own s.requires.numbers_ok.0 s.requires.numbers_ok.1.0 (s.args.from + 1 + j) (omega arith)

-- once the first rows have their parts
led : (c : After-add_parts-2)
    → Parted (part (start (goal.at.After-add_parts-2 c).After-min-end)) ((start (goal.at.After-add_parts-2 c).After-min-end).args.from + 1) (start (goal.at.After-add_parts-2 c).After-min-end).args.rows.now
    (c.add_parts-2.new.rows ++ drop (lead (start (goal.at.After-add_parts-2 c).After-min-end)) (start (goal.at.After-add_parts-2 c).After-min-end).args.rows.now)
    (lead (start (goal.at.After-add_parts-2 c).After-min-end))
led c =
    let s = start (goal.at.After-add_parts-2 c).After-min-end in
    parted_front (part s) (s.args.from + 1) s.args.rows.now (lead s) c.add_parts-2.new.rows (omega (arith, ends (goal.at.After-add_parts-2 c).After-min-end)) c.add_parts-2.ensures

-- what the far rows ask
abbrev FarOk : Start → List ℕ → Type 0
FarOk s z =
    (NumbersOk s.args.step s.args.own × (RainOk s.args.rain.now × (RoomOk z × (s.args.from + (lead s + length z) ≤ most_rows))))
    × ((many s.args.step s.args.rain.now s.args.own + 7 ≤ lead s) × ((lead s + length z ≤ length s.args.q.now) × (length z + 1 ≤ length s.args.sums.now)))

far_ok : (s : Start) (e : ℕ) → lead s < e → e ≤ length s.args.rows.now → FarOk s (mid_of (lead s) (e - lead s) s.args.rows.now)
far_ok s e lo hi =
    let long = mid_len (lead s) e s.args.rows.now hi in (
      (s.requires.numbers_ok.0, (s.requires.numbers_ok.1.0, (mid_room s.args.rows.now s.requires.numbers_ok.1.1.0 (lead s) e hi, omega (arith, long, s.requires.numbers_ok.1.1.1)))),
      (omega arith, (omega (arith, long, s.requires.rain_len_bound.1.0), omega (arith, long, s.requires.rain_len_bound.1.1))),
    )

-- few rows: all by blocks
pub returns-then-end-lead : goal.returns-then-end-lead
returns-then-end-lead c =
    let s = start (goal.at.returns-then-end-lead c).After-min-end in
    let e = c.min-end.result in
    let so = parted_front (part s) (s.args.from + 1) s.args.rows.now e c.add_parts.new.rows (omega (arith, ends (goal.at.returns-then-end-lead c).After-min-end)) c.add_parts.ensures in
    record { rows_after = parted_end (part s) (s.args.from + 1) s.args.rows.now so (late s e (ends (goal.at.returns-then-end-lead c).After-min-end)); q_len_unchanged = (refl, refl) }

pub add_far-requires : goal.add_far-requires
add_far-requires c =
    let s = start (goal.at.add_far-requires c).After-min-end in
    let far = mid_has _ _ _ (led (goal.at.add_far-requires c).After-add_parts-2) (λ (z : List ℕ). FarOk s z) c.min-end.result (far_ok s c.min-end.result (omega (arith, c.if-end-lead.false)) (omega (arith, ends (goal.at.add_far-requires c).After-min-end))) in
    record { numbers_ok = far.0; step_bound = far.1 }

pub returns : goal.returns
returns c =
    let s = start (goal.at.returns c).After-min-end in
    let e = c.min-end.result in
    let rows = c.add_parts-2.new.rows ++ drop (lead s) s.args.rows.now in
    let row : s.args.from + lead s + 1 ≡ s.args.from + 1 + lead s = omega arith in
    let added = c.add_far.ensures ∙ ap (λ (k : ℕ). plus (part s) k (mid_of (lead s) (e - lead s) rows)) row in
    let all = parted_turn (part s) (s.args.from + 1) s.args.rows.now (led (goal.at.returns c).After-add_parts-2) e c.add_far.new.rows (omega (arith, c.if-end-lead.false)) (omega (arith, ends (goal.at.returns c).After-min-end)) added in
    record { rows_after = parted_end (part s) (s.args.from + 1) s.args.rows.now all (late s e (ends (goal.at.returns c).After-min-end)); q_len_unchanged = (c.add_far.auto.q, c.add_far.auto.sums) }
