-- `listing::over::over_row` meets its contract. Assumes nothing.
use mathlib.Core.Path.{◌≡◌, refl, sym}
use mathlib.Core.List.{List}
use Prim.Native.Nat.{ℕ, ◌+◌, ◌≤◌}
use native.Mathlib.Omega.{arith}
use lib.ListN.{length, take, drop}
use Rattle.laws.proofs.Listed.{rows_part, rows_length}
use Rattle.rows.specs.Needs.{tide_of}
use Rattle.rows.proofs.Coming.{coming_start, coming_ok, coming_arrive, coming_safe, coming_end, coming_less, coming_over, coming_row, coming_turn, tide_from}
use Rattle.inflow.specs.Inflow.{inflow_at, inflow_rows}
use Rattle.listing.proofs.Listing.{most_of_lem}
use Rattle.listing.proofs.Most.{inflow_all}
use Rattle.listing.proofs.over.over_row.Goals as goal
use Rattle.listing.proofs.over.over_row.Goals.{After-dry_block-tide, Start}

-- the inflow of a row, and all rows
abbrev row : Start → ℕ → ℕ
row s = inflow_at s.args.setup s.args.rain.now s.args.subareas.now

abbrev ws : Start → List ℕ
ws s = inflow_rows s.args.setup s.args.rain.now s.args.subareas.now s.args.m

long : (s : Start) → length (ws s) ≡ s.args.m
long s = rows_length (row s) 1 s.args.m

-- the function's entry, from where a block was run dry
abbrev start : After-dry_block-tide → Start
start d = (goal.at.After-dry_block-tide d).Start

-- it ends at the last row or before it
inside : (d : After-dry_block-tide) → d.loop-from.from + d.min-n.result ≤ d.args.m
inside d = omega (arith, d.min-n.ensures, d.loop-from-test.true)

within : (d : After-dry_block-tide) → d.loop-from.from + d.min-n.result ≤ length (ws (start d))
within d = omega (arith, inside d, long (start d))

-- its rows are a part of all
tide_is : (d : After-dry_block-tide)
    → d.dry_block-tide.result ≡ tide_of d.args.level.now.pond.half d.args.level.now.pond.table.numbers.now d.loop-from.last (take d.min-n.result (drop d.loop-from.from (ws (start d))))
tide_is d =
    tide_from d.new.result d.new.ensures.pond d.new.ensures.state (sym (rows_part (row (start d)) d.args.m d.loop-from.from d.min-n.result (inside d))) d.dry_block-tide.ensures

pub most_inflow-come-requires : goal.most_inflow-come-requires
most_inflow-come-requires c = (c.requires.list_ok.0, c.requires.list_ok.1.0)

pub loop-from-init : goal.loop-from-init
loop-from-init c =
    let rain = c.args.rain.now in
    let l = c.args.subareas.now in
    let e = c.most_inflow-come.ensures in
    coming_start c.args.level.now (ws (goal.at.loop-from-init c).Start) c.most_inflow-come.result
    (omega (arith, e, most_of_lem rain l c.args.setup c.requires.list_ok.1.0 c.requires.list_ok.0))
    (omega (arith, e, inflow_all c.args.setup rain l c.args.m c.requires.list_ok.1.0 c.requires.list_ok.0))

pub arrive-requires : goal.arrive-requires
arrive-requires c = coming_arrive c.args.level.now _ c.loop-from.invariant

-- no later row can go over
pub returns-then-arrive-top-clause-value : goal.returns-then-arrive-top-clause-value
returns-then-arrive-top-clause-value c =
    sym (coming_safe c.args.level.now _ c.loop-from.invariant (omega (arith, c.arrive.ensures, c.last_sum-top.ensures, c.if-arrive-top.true)))

pub new-requires : goal.new-requires
new-requires c = coming_ok c.args.level.now _ c.loop-from.invariant

pub dry_block-tide-requires : goal.dry_block-tide-requires
dry_block-tide-requires c =
    let e = c.min-n.ensures in
    let some = c.loop-from-test.true in
    record { list_ok = c.requires.list_ok; le_n = (omega (arith, e, some), (omega (arith, e), omega (arith, e, some, c.requires.few))) }

-- a block that goes over
pub overflow_add-result : goal.overflow_add-result
overflow_add-result c =
    let d = (goal.at.overflow_add-result c).After-dry_block-tide in
    omega (arith, coming_row d.args.level.now (ws (start d)) d.loop-from.invariant d.min-n.result _ refl (within d) (tide_is d) c.in-Some.is, long (start d), d.requires.few)

pub returns-in-Some-clause-value : goal.returns-in-Some-clause-value
returns-in-Some-clause-value c =
    let d = (goal.at.returns-in-Some-clause-value c).After-dry_block-tide in
    sym (coming_over d.args.level.now (ws (start d)) d.loop-from.invariant d.min-n.result _ refl (within d) (tide_is d) c.in-Some.is)

pub returns-in-Some-clause-row : goal.returns-in-Some-clause-row
returns-in-Some-clause-row c =
    let d = (goal.at.returns-in-Some-clause-row c).After-dry_block-tide in
    omega (arith, coming_row d.args.level.now (ws (start d)) d.loop-from.invariant d.min-n.result _ refl (within d) (tide_is d) c.in-Some.is, long (start d))

-- a block that does not
pub overflow_sub-come : goal.overflow_sub-come
overflow_sub-come c =
    let d = (goal.at.overflow_sub-come c).After-dry_block-tide in
    coming_less d.args.level.now (ws (start d)) d.loop-from.invariant d.min-n.result _ refl (within d) (tide_is d)

pub overflow_add-from : goal.overflow_add-from
overflow_add-from c = omega (arith, inside (goal.at.overflow_add-from c).After-dry_block-tide, c.requires.few)

pub loop-from-smaller : goal.loop-from-smaller
loop-from-smaller c = omega (arith, c.min-n.ensures, c.loop-from-test.true)

pub loop-from-preserved : goal.loop-from-preserved
loop-from-preserved c =
    let d = (goal.at.loop-from-preserved c).After-dry_block-tide in
    coming_turn d.args.level.now (ws (start d)) d.loop-from.invariant d.min-n.result _ refl (within d) (tide_is d) c.in_default.is

pub returns-clause-value : goal.returns-clause-value
returns-clause-value c = sym (coming_end c.args.level.now _ c.loop-from.invariant (omega (arith, long (goal.at.returns-clause-value c).Start)))
