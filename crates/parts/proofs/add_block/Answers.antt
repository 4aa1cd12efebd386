-- `parts::add_block` meets its contract. Assumes nothing.
use mathlib.Core.Path.{◌≡◌, sym, ap, ◌∙◌}
use mathlib.Core.List.{List}
use Prim.Native.Nat.{ℕ, ◌+◌, ◌-◌, ◌≤◌}
use native.Mathlib.Omega.{arith}
use borrow.Author.Tests.{eqb-true}
use lib.ListN.{length, drop, replicate, length-append}
use lib.Seq.{take_at, length-take-le}
use Rattle.laws.specs.Limits.{most_rows}
use Rattle.laws.specs.Listed.{rows_from, plus}
use Rattle.laws.proofs.Fronts.{front_has, front_long}
use Rattle.laws.proofs.Listed.{rows_length}
use Rattle.hydrograph.specs.InflowRows.{runoff_at, weights}
use Rattle.sums.specs.Needs.{block_rows}
use Rattle.parts.specs.Needs.{part_by, volume_between, SumsOk}
use Rattle.parts.proofs.Added.{plus_nothing}
use Rattle.parts.proofs.Through.{sum_at, sums_ok, between_parts, still_part}
use Rattle.parts.proofs.add_block.Goals as goal
use Rattle.parts.proofs.add_block.Goals.{After-block_sums, Start}

-- the sums of a block have room in the local list
short : (s : Start) → length s.args.rows.now + 1 ≤ 32
short s = omega (arith, s.requires.1.1.1.1.0)

-- the function's entry, once the sums are written
abbrev start : After-block_sums → Start
start c = (goal.at.After-block_sums c).Start

-- the sums that are asked for
abbrev due : Start → List ℕ
due s = rows_from (sum_at s.args.step s.args.rain.now s.args.own) s.args.from (length s.args.rows.now + 1)

due_long : (s : Start) → length (due s) ≡ length s.args.rows.now + 1
due_long s = rows_length (sum_at s.args.step s.args.rain.now s.args.own) s.args.from (length s.args.rows.now + 1)

-- they stand in the front of the local list
written : (c : After-block_sums) → c.block_sums.new.sums ≡ due (start c)
written c =
    let s = start c in
    c.block_sums.ensures ∙ ap (rows_from (sum_at s.args.step s.args.rain.now s.args.own) s.args.from) (length-take-le (length s.args.rows.now + 1) _ (short s))

long : (c : After-block_sums) → length c.block_sums.new.sums ≡ length (start c).args.rows.now + 1
long c = ap length (written c) ∙ due_long (start c)

-- rows that look at one depth only have no parts
pub returns-then-still : goal.returns-then-still
returns-then-still c =
    let Q = runoff_at c.args.own.tenths c.args.rain.now in
    let flat = eqb-true (Q (c.args.from + length c.args.rows.now)) (Q (c.args.from + 1 - weights c.args.own.peak c.args.step)) (sym c.still.ensures ∙ c.if-still.true) in
    plus_nothing (part_by c.args.step c.args.rain.now c.args.own) (c.args.from + 1) c.args.rows.now
    (λ i l. still_part c.args.step c.args.rain.now c.args.own c.requires.0 c.requires.1.0 c.args.from (length c.args.rows.now) (c.args.from + 1 + i) flat (omega arith) (omega arith))

pub slice_bounds-block_sums-end : goal.slice_bounds-block_sums-end
slice_bounds-block_sums-end c = sym (length-take-le (length c.args.rows.now + 1) _ (short (goal.at.slice_bounds-block_sums-end c).Start))

pub block_sums-requires : goal.block_sums-requires
block_sums-requires c =
    let n = length c.args.rows.now + 1 in
    (c.requires.0, (c.requires.1.0, front_long (λ (z : ℕ). (2 ≤ z) × ((z ≤ block_rows + 1) × (c.args.from + z ≤ most_rows + 1))) n _ (short (goal.at.block_sums-requires c).Start) (omega (arith, c.requires.1.1.1.0), (short (goal.at.block_sums-requires c).Start, omega (arith, c.requires.1.1.1.1.1)))))

pub slice_bounds-list-end-2 : goal.slice_bounds-list-end-2
slice_bounds-list-end-2 c = simp length-append (omega (arith, long (goal.at.slice_bounds-list-end-2 c).After-block_sums))

-- the local list's front, lent again, is as long as was asked
pub slice_bounds-add_volumes-end : goal.slice_bounds-add_volumes-end
slice_bounds-add_volumes-end c = front_has (λ (z : List ℕ). length (start (goal.at.slice_bounds-add_volumes-end c).After-block_sums).args.rows.now + 1 ≡ length z) (length (start (goal.at.slice_bounds-add_volumes-end c).After-block_sums).args.rows.now + 1) _ _ _ (long (goal.at.slice_bounds-add_volumes-end c).After-block_sums) (written (goal.at.slice_bounds-add_volumes-end c).After-block_sums) (sym (due_long (start (goal.at.slice_bounds-add_volumes-end c).After-block_sums)))

pub add_volumes-requires : goal.add_volumes-requires
add_volumes-requires c =
    let s = start (goal.at.add_volumes-requires c).After-block_sums in
    let n = length s.args.rows.now + 1 in
    let ok = sums_ok s.args.step s.args.rain.now s.args.own s.requires.0 s.requires.1.0 s.args.from n in
    (front_has (λ (z : List ℕ). SumsOk s.args.own z) n _ _ _ (long (goal.at.add_volumes-requires c).After-block_sums) (written (goal.at.add_volumes-requires c).After-block_sums) ok, (s.requires.1.1.0, front_has (λ (z : List ℕ). length z ≡ n) n _ _ _ (long (goal.at.add_volumes-requires c).After-block_sums) (written (goal.at.add_volumes-requires c).After-block_sums) (due_long s)))

pub returns : goal.returns
returns c =
    let s = start (goal.at.returns c).After-block_sums in
    let n = length s.args.rows.now + 1 in
    c.add_volumes.ensures
    ∙ ap (λ (l : List ℕ). plus (volume_between s.args.own l) 1 s.args.rows.now) (take_at c.block_sums.new.sums (drop n (replicate 32 0)) n (long (goal.at.returns c).After-block_sums) ∙ written (goal.at.returns c).After-block_sums)
    ∙ between_parts s.args.step s.args.rain.now s.args.own s.requires.0 s.requires.1.0 s.args.from s.args.rows.now
