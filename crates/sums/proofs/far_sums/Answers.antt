-- `sums::far_sums` meets its contract. Assumes nothing.
use mathlib.Core.Path.{◌≡◌, refl, sym, ap, ◌∙◌}
use mathlib.Core.List.{List}
use Prim.Native.Nat.{ℕ, ◌+◌, ◌-◌, ◌≤◌, ◌<◌}
use native.Mathlib.Omega.{arith}
use lib.ListN.{length, drop}
use Rattle.laws.specs.Listed.{rows_from, plus}
use Rattle.laws.proofs.Fill.{tail_part}
use Rattle.laws.proofs.Listed.{rows_length, zeros_all}
use Rattle.hydrograph.specs.InflowRows.{weights}
use Rattle.sums.specs.Needs.{handful, sum_in, NumbersOk}
use Rattle.hydrograph.proofs.Hands.{hand_below}
use Rattle.sums.proofs.Far.{Summing, summing_start, part_length, part_below, summing_room, summing_turn, summing_end}
use Rattle.sums.proofs.far_sums.Goals as goal
use Rattle.sums.proofs.far_sums.Goals.{After-fill, After-saturating_sub-a, After-lay, At-loop-done, Start}

-- the function's entry, from the head of its loop, and how many sums there are
abbrev start : At-loop-done → Start
start a = (goal.at.At-loop-done a).Start

zeros : (b : After-fill) → b.fill.new.self ≡ rows_from (λ (k : ℕ). 0) 1 (length b.args.sums.now)
zeros b = b.fill.ensures.after (λ y e. e) ∙ zeros_all 1 (length b.args.sums.now)

cleared : (b : After-fill) → length b.fill.new.self ≡ length b.args.sums.now
cleared b = ap length (zeros b) ∙ rows_length (λ (k : ℕ). 0) 1 (length b.args.sums.now)

numbers : (a : At-loop-done) → NumbersOk (start a).args.step (start a).args.own
numbers a = (start a).requires.numbers_ok.0

fits : (a : At-loop-done) → (start a).args.lead + length a.fill.new.self ≤ length (start a).args.q.now + 1
fits a = rw (cleared (goal.at.At-loop-done a).After-fill) (start a).requires.numbers_ok.1.1.1.1

-- where a hand's depths begin
begins : (c : After-saturating_sub-a) → c.saturating_sub-a.result ≡ (start (goal.at.After-saturating_sub-a c).At-loop-done).args.lead - c.loop-done.done - 8
begins c = omega (arith, c.saturating_sub-a.ensures)

pub loop-done-init : goal.loop-done-init
loop-done-init c =
    summing_start c.args.step c.args.own c.args.q.now c.args.lead (length c.fill.new.self)
    (zeros (goal.at.loop-done-init c).After-fill ∙ ap (rows_from (λ (k : ℕ). 0) 1) (sym (cleared (goal.at.loop-done-init c).After-fill))) refl

pub lay-requires : goal.lay-requires
lay-requires c =
    let s = start (goal.at.lay-requires c).At-loop-done in
    let D = s.args.step in
    let own = s.args.own in
    let q = s.args.q.now in
    let lead = s.args.lead in
    let n = length c.fill.new.self in
    let ahead = s.requires.numbers_ok.1.0 in
    let so = c.loop-done.invariant in
    let more : c.loop-done.done < weights own.peak D = omega arith in
    rw (begins (goal.at.lay-requires c).After-saturating_sub-a, tail_part q (lead - c.loop-done.done - 8)) (
      part_length D own q lead n so ahead (fits (goal.at.lay-requires c).At-loop-done) more,
      (
        part_below D own q lead n so ahead (fits (goal.at.lay-requires c).At-loop-done) more s.requires.below.0,
        (hand_below D own.peak (numbers (goal.at.lay-requires c).At-loop-done).timed c.loop-done.done _ c.fill_weights-line.ensures.1, summing_room D own q lead n so ahead (fits (goal.at.lay-requires c).At-loop-done) more s.requires.below.0 (numbers (goal.at.lay-requires c).At-loop-done)),
      ),
    )

-- one hand more is laid
turned : (c : After-lay) → Summing (start (goal.at.After-lay c).At-loop-done).args.step (start (goal.at.After-lay c).At-loop-done).args.own
    (start (goal.at.After-lay c).At-loop-done).args.q.now (start (goal.at.After-lay c).At-loop-done).args.lead (length c.fill.new.self)
    c.lay.new.sums c.fill_weights-line.new.list c.fill_weights-line.result (c.loop-done.done + 8)
turned c =
    let s = start (goal.at.After-lay c).At-loop-done in
    let D = s.args.step in
    let own = s.args.own in
    let q = s.args.q.now in
    let lead = s.args.lead in
    let n = length c.fill.new.self in
    let fill = c.fill_weights-line in
    let more : c.loop-done.done < weights own.peak D = omega (arith, c.loop-done-test.true) in
    summing_turn D own q lead n c.loop-done.invariant s.requires.numbers_ok.1.0 (fits (goal.at.After-lay c).At-loop-done) more fill.ensures.1 fill.ensures.0
    (c.lay.ensures ∙ ap (λ (z : List ℕ). plus (handful fill.new.list z) 1 c.loop-done.sums) (tail_part q _ ∙ ap (λ (z : ℕ). drop z q) (begins (goal.at.After-lay c).After-saturating_sub-a)))

pub loop-done-preserved : goal.loop-done-preserved
loop-done-preserved c = turned (goal.at.loop-done-preserved c).After-lay

pub returns : goal.returns
returns c =
    let s = start (goal.at.returns c).At-loop-done in
    summing_end s.args.step s.args.own s.args.q.now s.args.lead (length c.fill.new.self) c.loop-done.invariant (omega arith)
    ∙ ap (rows_from (sum_in s.args.step s.args.own s.args.q.now (weights s.args.own.peak s.args.step)) (s.args.lead - 1)) (cleared (goal.at.returns c).After-fill)
