-- `listing::fill_rows` meets its contract. Assumes nothing.
use mathlib.Core.Path.{◌≡◌, sym, ap, ◌∙◌}
use Prim.Native.Nat.{ℕ}
use native.Mathlib.Omega.{arith}
use lib.ListN.{length}
use Rattle.laws.specs.Listed.{rows_from}
use Rattle.laws.proofs.Listed.{rows_length}
use Rattle.subarea.proofs.Subareas.{listed_length, listed_at}
use Rattle.inflow.specs.Inflow.{inflow_rows}
use Rattle.inflow.proofs.Inflows.{parts_start, parts_room, parts_long, parts_end}
use Rattle.listing.proofs.Listing.{listed_ok, listed_turn}
use Rattle.listing.proofs.fill_rows.Goals as goal
use Rattle.listing.proofs.fill_rows.Goals.{After-clear, At-loop-i, In-loop-i, Start}

-- clearing keeps the length
cleared : (c : After-clear) → length c.clear.new.rows ≡ length c.args.inflow.now
cleared c = ap length c.clear.ensures ∙ rows_length (λ (k : ℕ). 0) 1 (length c.args.inflow.now)

-- from the head of the loop: where the inflow was cleared, and the function's entry
abbrev clean : At-loop-i → After-clear
clean a = (goal.at.At-loop-i a).After-clear

abbrev start : At-loop-i → Start
start a = (goal.at.At-loop-i a).Start

pub loop-i-init : goal.loop-i-init
loop-i-init c =
    let e = sym (cleared (goal.at.loop-i-init c).After-clear) in
    record {
      rows = parts_start c.args.setup c.args.rain.now c.args.subareas.now 1 (length c.clear.new.rows) (c.clear.ensures ∙ ap (rows_from (λ (k : ℕ). 0) 1) e);
      out_long = c.requires.rain_len_bound.1.1.0 ∙ e;
      held_long = c.requires.rain_len_bound.1.1.1 ∙ e;
    }

pub listed_numbers-numbers-requires : goal.listed_numbers-numbers-requires
listed_numbers-numbers-requires c =
    let ok = (start (goal.at.listed_numbers-numbers-requires c).At-loop-i).requires.list_ok.0 in
    let a = listed_at c.records-own-items.ensures c.loop-i-test.true in
    let each = ok.each c.loop-i.i a.inside in
    rw a.own (each.whole, (each.patched, omega (arith, a.inside, ok.records.most)))

pub add_all-requires : goal.add_all-requires
add_all-requires c =
    let s = start (goal.at.add_all-requires c).At-loop-i in
    let g = s.args.setup in
    let rain = s.args.rain.now in
    let l = s.args.subareas.now in
    let m = length (clean (goal.at.add_all-requires c).At-loop-i).clear.new.rows in
    let e = cleared (clean (goal.at.add_all-requires c).At-loop-i) in
    let so = c.loop-i.invariant in
    let long = parts_long g rain l 1 m so.rows in
    let room = parts_room g rain l 1 m so.rows s.requires.list_ok.1.0 s.requires.list_ok.0 (omega (arith, e, s.requires.rain_len_bound.1.0)) in
    let numbers = listed_ok g l s.requires.list_ok.1.1 c.records-own-items.ensures c.loop-i-test.true c.listed_numbers-numbers.ensures s.requires.list_ok.0 in
    record { numbers_ok = (numbers, (s.requires.list_ok.1.0, (room, omega (arith, e, long, s.requires.rain_len_bound.1.0)))); rain_len_bound = (s.requires.rain_len_bound.0, (so.out_long ∙ sym long, so.held_long ∙ sym long)) }

pub loop-i-preserved : goal.loop-i-preserved
loop-i-preserved c =
    let s = start (goal.at.loop-i-preserved c).At-loop-i in
    let more = c.add_all.ensures in
    record {
      rows = listed_turn s.args.setup s.args.subareas.now s.requires.list_ok.1.1 c.records-own-items.ensures c.loop-i-test.true c.listed_numbers-numbers.ensures s.args.rain.now 1 (length (clean (goal.at.loop-i-preserved c).At-loop-i).clear.new.rows) c.loop-i.invariant.rows more.rows_after;
      out_long = more.q_len_unchanged.0 ∙ c.loop-i.invariant.out_long;
      held_long = more.q_len_unchanged.1 ∙ c.loop-i.invariant.held_long;
    }

pub shape_of-inflow : goal.shape_of-inflow
shape_of-inflow c =
    let s = start (goal.at.shape_of-inflow c).At-loop-i in
    parts_long s.args.setup s.args.rain.now s.args.subareas.now 1 (length (clean (goal.at.shape_of-inflow c).At-loop-i).clear.new.rows) c.loop-i.invariant.rows ∙ cleared (clean (goal.at.shape_of-inflow c).At-loop-i)

pub shape_of-outflow : goal.shape_of-outflow
shape_of-outflow c = c.loop-i.invariant.out_long ∙ cleared (clean (goal.at.shape_of-outflow c).At-loop-i) ∙ sym (start (goal.at.shape_of-outflow c).At-loop-i).requires.rain_len_bound.1.1.0

pub shape_of-storage : goal.shape_of-storage
shape_of-storage c = c.loop-i.invariant.held_long ∙ cleared (clean (goal.at.shape_of-storage c).At-loop-i) ∙ sym (start (goal.at.shape_of-storage c).At-loop-i).requires.rain_len_bound.1.1.1

pub returns : goal.returns
returns c =
    let s = start (goal.at.returns c).At-loop-i in
    let g = s.args.setup in
    let rain = s.args.rain.now in
    let l = s.args.subareas.now in
    record { inflow_after = parts_end g rain l 1 (length (clean (goal.at.returns c).At-loop-i).clear.new.rows) c.loop-i.invariant.rows (omega (arith, ap length c.records-own-items.ensures, listed_length l)) ∙ ap (inflow_rows g rain l) (cleared (clean (goal.at.returns c).At-loop-i)); outflow_len_unchanged = (shape_of-outflow c, shape_of-storage c) }
