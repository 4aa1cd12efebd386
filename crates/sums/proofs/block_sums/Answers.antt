-- `sums::block_sums` meets its contract. Assumes nothing.
use mathlib.Core.Path.{◌≡◌, sym, ap, ◌∙◌}
use Prim.Native.Nat.{ℕ, ◌+◌, ◌-◌}
use native.Mathlib.Omega.{arith}
use lib.ListN.{length}
use Rattle.laws.specs.Listed.{rows_from}
use Rattle.laws.proofs.Listed.{rows_length, zeros_all}
use Rattle.hydrograph.specs.InflowRows.{weights}
use Rattle.hydrograph.specs.Needs.{hand}
use Rattle.sums.specs.Needs.{sum_of}
use Rattle.sums.proofs.Block.{window_start, summing_start, summing_stop, summing_end}
use Rattle.sums.proofs.block_sums.Goals as goal
use Rattle.sums.proofs.block_sums.Goals.{After-fill, After-lay_hand-line, At-loop-done, Start}

-- the function's entry, and where the sums are cleared, from the head of its loop
abbrev start : At-loop-done → Start
start a = (goal.at.At-loop-done a).Start

abbrev cleared : At-loop-done → After-fill
cleared a = (goal.at.At-loop-done a).After-fill

-- what is filled is zeros, as many as there were sums
zeros : (c : After-fill) → c.fill.new.self ≡ rows_from (λ (k : ℕ). 0) 1 (length c.args.sums.now)
zeros c = c.fill.ensures.after (λ y e. e) ∙ zeros_all 1 (length c.args.sums.now)

clear_long : (c : After-fill) → length c.fill.new.self ≡ length c.args.sums.now
clear_long c = ap length (zeros c) ∙ rows_length (λ (k : ℕ). 0) 1 (length c.args.sums.now)

pub loop-done-init : goal.loop-done-init
loop-done-init c =
    let m = length c.fill.new.self in
    summing_start c.args.step c.args.rain.now c.args.own c.args.from m c.fill.new.self _
    (zeros (goal.at.loop-done-init c).After-fill ∙ ap (rows_from (λ (k : ℕ). 0) 1) (sym (clear_long (goal.at.loop-done-init c).After-fill)))
    (window_start c.args.own.tenths c.args.rain.now c.args.from (m - 1) (m - 1 + hand - hand) c.fill_depths.new.list (omega arith) (omega (arith, clear_long (goal.at.loop-done-init c).After-fill, c.requires.1.1)) c.fill_depths.ensures)

pub returns-then-q-e-eq0 : goal.returns-then-q-e-eq0
returns-then-q-e-eq0 c =
    let s = start (goal.at.returns-then-q-e-eq0 c).At-loop-done in
    summing_stop s.args.step s.args.rain.now s.args.own s.args.from _ c.loop-done.invariant s.requires.0.curved s.requires.1.0 (omega (arith, clear_long (cleared (goal.at.returns-then-q-e-eq0 c).At-loop-done), s.requires.1.1)) (omega arith) c.if-q-e-eq0.true
    ∙ ap (rows_from (sum_of s.args.step s.args.rain.now s.args.own (weights s.args.own.peak s.args.step)) s.args.from) (clear_long (cleared (goal.at.returns-then-q-e-eq0 c).At-loop-done))

pub returns : goal.returns
returns c =
    let s = start (goal.at.returns c).At-loop-done in
    summing_end s.args.step s.args.rain.now s.args.own s.args.from _ c.loop-done.invariant (omega arith)
    ∙ ap (rows_from (sum_of s.args.step s.args.rain.now s.args.own (weights s.args.own.peak s.args.step)) s.args.from) (clear_long (cleared (goal.at.returns c).At-loop-done))
