-- `listing::over::dry_block` meets its contract. Assumes nothing.
use mathlib.Core.Path.{◌≡◌, sym, ap, ◌∙◌}
use mathlib.Core.List.{List}
use Prim.Native.Nat.{ℕ, ◌+◌, ◌≤◌}
use native.Mathlib.Omega.{arith}
use lib.ListN.{length, length-take, length-append}
use lib.Seq.{take_at, length-take-le}
use Rattle.laws.specs.Limits.{most_rows}
use Rattle.laws.specs.Listed.{rows_from}
use Rattle.laws.proofs.Fronts.{front_long, front_has}
use Rattle.laws.proofs.Listed.{rows_length}
use Rattle.rows.specs.Needs.{InflowOk, tide_of}
use Rattle.sums.specs.Needs.{block_rows}
use Rattle.inflow.specs.Inflow.{inflow_at}
use Rattle.inflow.proofs.Inflows.{block_ok}
use Rattle.listing.proofs.over.dry_block.Goals as goal
use Rattle.listing.proofs.over.dry_block.Goals.{After-fill_block, Start}

-- the inflow of a row
abbrev row : Start → ℕ → ℕ
row s = inflow_at s.args.setup s.args.rain.now s.args.subareas.now

-- the rows that stand in the front of the local list
filled : (c : After-fill_block) → c.fill_block.new.rows ≡ rows_from (row (goal.at.After-fill_block c).Start) (c.args.from + 1) c.args.n
filled c =
    c.fill_block.ensures ∙ ap (rows_from (row (goal.at.After-fill_block c).Start) (c.args.from + 1)) (length-take-le c.args.n _ c.requires.le_n.1.0)

long : (c : After-fill_block) → length c.fill_block.new.rows ≡ c.args.n
long c = ap length (filled c) ∙ rows_length (row (goal.at.After-fill_block c).Start) (c.args.from + 1) c.args.n

pub slice_bounds-fill_block-end : goal.slice_bounds-fill_block-end
slice_bounds-fill_block-end c = sym (length-take-le c.args.n _ c.requires.le_n.1.0)

pub fill_block-requires : goal.fill_block-requires
fill_block-requires c =
    record { list_ok = c.requires.list_ok; in_bounds = front_long (λ (z : ℕ). (1 ≤ z) × ((z ≤ block_rows) × (c.args.from + z ≤ most_rows))) c.args.n _ c.requires.le_n.1.0 c.requires.le_n }

pub slice_bounds-rows-end-2 : goal.slice_bounds-rows-end-2
slice_bounds-rows-end-2 c = simp length-append (omega (arith, long (goal.at.slice_bounds-rows-end-2 c).After-fill_block))

pub slice_bounds-tide_after-end : goal.slice_bounds-tide_after-end
slice_bounds-tide_after-end c = simp (length-take, length-append) (omega (arith, long (goal.at.slice_bounds-tide_after-end c).After-fill_block))

pub tide_after-requires : goal.tide_after-requires
tide_after-requires c =
    let first = c.args.from + 1 in
    let n = c.args.n in
    let ok = block_ok c.args.setup c.args.rain.now c.args.subareas.now c.requires.list_ok.1.0 c.requires.list_ok.0 first n in
    let few : length (rows_from (row (goal.at.tide_after-requires c).Start) first n) ≤ most_rows = omega (arith, rows_length (row (goal.at.tide_after-requires c).Start) first n, c.requires.le_n.1.0) in
    front_has (λ (z : List ℕ). InflowOk z × (length z ≤ most_rows)) n _ _ _ (long (goal.at.tide_after-requires c).After-fill_block) (filled (goal.at.tide_after-requires c).After-fill_block) (ok, few)

pub returns : goal.returns
returns c =
    c.tide_after.ensures
    ∙ ap (tide_of c.args.level.now.pond.half c.args.level.now.pond.table.numbers.now c.args.level.now.state) (take_at c.fill_block.new.rows _ c.args.n (long (goal.at.returns c).After-fill_block) ∙ filled (goal.at.returns c).After-fill_block)
