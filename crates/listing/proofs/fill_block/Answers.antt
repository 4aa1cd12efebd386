-- `listing::fill_block` meets its contract. Assumes nothing.
use mathlib.Core.Path.{◌≡◌, sym, ap, ◌∙◌}
use Prim.Native.Nat.{ℕ, ◌+◌}
use native.Mathlib.Omega.{arith}
use lib.ListN.{length}
use Rattle.laws.specs.Listed.{rows_from}
use Rattle.laws.proofs.Listed.{rows_length}
use Rattle.subarea.proofs.Subareas.{listed_length, listed_at}
use Rattle.inflow.specs.Inflow.{inflow_at}
use Rattle.inflow.proofs.Inflows.{parts_start, parts_room, parts_long, parts_end}
use Rattle.listing.proofs.Listing.{listed_ok, listed_turn}
use Rattle.listing.proofs.fill_block.Goals as goal
use Rattle.listing.proofs.fill_block.Goals.{After-clear, At-loop-i, In-loop-i, Start}

-- clearing keeps the length
cleared : (c : After-clear) → length c.clear.new.rows ≡ length c.args.rows.now
cleared c = ap length c.clear.ensures ∙ rows_length (λ (k : ℕ). 0) 1 (length c.args.rows.now)

-- from the head of the loop: where the rows were cleared, and the function's entry
abbrev clean : At-loop-i → After-clear
clean a = (goal.at.At-loop-i a).After-clear

abbrev start : At-loop-i → Start
start a = (goal.at.At-loop-i a).Start

pub loop-i-init : goal.loop-i-init
loop-i-init c =
    parts_start c.args.setup c.args.rain.now c.args.subareas.now (c.args.from + 1) (length c.clear.new.rows)
    (c.clear.ensures ∙ ap (rows_from (λ (k : ℕ). 0) 1) (sym (cleared (goal.at.loop-i-init c).After-clear)))

pub listed_numbers-numbers-requires : goal.listed_numbers-numbers-requires
listed_numbers-numbers-requires c =
    let ok = (start (goal.at.listed_numbers-numbers-requires c).At-loop-i).requires.list_ok.0 in
    let a = listed_at c.records-own-items.ensures c.loop-i-test.true in
    let each = ok.each c.loop-i.i a.inside in
    rw a.own (each.whole, (each.patched, omega (arith, a.inside, ok.records.most)))

pub add_block-requires : goal.add_block-requires
add_block-requires c =
    let s = start (goal.at.add_block-requires c).At-loop-i in
    let g = s.args.setup in
    let rain = s.args.rain.now in
    let l = s.args.subareas.now in
    let m = length (clean (goal.at.add_block-requires c).At-loop-i).clear.new.rows in
    let e = cleared (clean (goal.at.add_block-requires c).At-loop-i) in
    let long = parts_long g rain l (s.args.from + 1) m c.loop-i.invariant in
    let room = parts_room g rain l (s.args.from + 1) m c.loop-i.invariant s.requires.list_ok.1.0 s.requires.list_ok.0 (omega (arith, e, s.requires.in_bounds.1.1)) in
    let numbers = listed_ok g l s.requires.list_ok.1.1 c.records-own-items.ensures c.loop-i-test.true c.listed_numbers-numbers.ensures s.requires.list_ok.0 in
    (numbers, (s.requires.list_ok.1.0, (room, (omega (arith, e, long, s.requires.in_bounds.0), (omega (arith, e, long, s.requires.in_bounds.1.0), omega (arith, e, long, s.requires.in_bounds.1.1))))))

pub loop-i-preserved : goal.loop-i-preserved
loop-i-preserved c =
    let s = start (goal.at.loop-i-preserved c).At-loop-i in
    listed_turn s.args.setup s.args.subareas.now s.requires.list_ok.1.1 c.records-own-items.ensures c.loop-i-test.true c.listed_numbers-numbers.ensures s.args.rain.now (s.args.from + 1) (length (clean (goal.at.loop-i-preserved c).At-loop-i).clear.new.rows) c.loop-i.invariant c.add_block.ensures

pub shape_of-rows : goal.shape_of-rows
shape_of-rows c =
    let s = start (goal.at.shape_of-rows c).At-loop-i in
    parts_long s.args.setup s.args.rain.now s.args.subareas.now (s.args.from + 1) (length (clean (goal.at.shape_of-rows c).At-loop-i).clear.new.rows) c.loop-i.invariant ∙ cleared (clean (goal.at.shape_of-rows c).At-loop-i)

pub returns : goal.returns
returns c =
    let s = start (goal.at.returns c).At-loop-i in
    let g = s.args.setup in
    let rain = s.args.rain.now in
    let l = s.args.subareas.now in
    parts_end g rain l (s.args.from + 1) (length (clean (goal.at.returns c).At-loop-i).clear.new.rows) c.loop-i.invariant (omega (arith, ap length c.records-own-items.ensures, listed_length l)) ∙ ap (rows_from (inflow_at g rain l) (s.args.from + 1)) (cleared (clean (goal.at.returns c).At-loop-i))
