-- `sums::lay_hand` meets its contract. Assumes nothing.
use mathlib.Core.Path.{◌≡◌, ◌∙◌}
use mathlib.Core.List.{List, ◌++◌}
use Prim.Native.Nat.{ℕ, ◌+◌, ◌-◌, ◌<◌}
use native.Mathlib.Omega.{arith}
use lib.ListN.{length, get_or, drop}
use Rattle.hydrograph.specs.InflowRows.{runoff_at}
use Rattle.hydrograph.specs.Needs.{hand}
use Rattle.hydrograph.proofs.Lines.{line_next}
use Rattle.sums.proofs.Window.{window_full, full_long, full_below, window_moved, laid_more, sums_below}
use Rattle.hydrograph.proofs.Hands.{hand_below}
use Rattle.sums.proofs.lay_hand.Goals as goal
use Rattle.sums.proofs.lay_hand.Goals.{After-fill_weights-last, Start}

-- the entry, and the depths written, once the weights are worked out
abbrev S : After-fill_weights-last → Start
S f = (goal.at.After-fill_weights-last f).Start

abbrev deep : After-fill_weights-last → List ℕ
deep f = f.fill_depths.new.list

-- the rows of the sums less one
abbrev rows : After-fill_weights-last → ℕ
rows f = length (S f).args.sums.now - 1

-- what the window is then
each : (f : After-fill_weights-last) → (x : ℕ) → x < rows f + hand
    → get_or (deep f ++ drop hand (S f).args.q.now) x 0 ≡ runoff_at (S f).args.own.tenths (S f).args.rain.now ((S f).args.from + 1 + x - ((S f).args.done + hand))
each f =
    let s = S f in
    window_full s.args.own.tenths s.args.rain.now s.args.from s.args.done (rows f) s.args.q.now s.requires.window_ok.0 (deep f) f.fill_depths.ensures

pub lay-requires : goal.lay-requires
lay-requires c =
    let s = S (goal.at.lay-requires c).After-fill_weights-last in
    let tenths = s.args.own.tenths in
    let rain = s.args.rain.now in
    let e = c.fill_depths.ensures in
    let m = length s.args.sums.now in
    let long = full_long tenths rain s.args.from s.args.done (rows (goal.at.lay-requires c).After-fill_weights-last) s.args.q.now s.requires.window_ok.0 (deep (goal.at.lay-requires c).After-fill_weights-last) e in (
      omega (arith, long, s.requires.numbers_ok.1.1),
      (
        full_below tenths rain s.args.from s.args.done (rows (goal.at.lay-requires c).After-fill_weights-last) s.args.q.now s.requires.window_ok.0 (deep (goal.at.lay-requires c).After-fill_weights-last) e s.requires.numbers_ok.0.curved s.requires.numbers_ok.1.0 (m + 7) (omega (arith, s.requires.numbers_ok.1.1)),
        (
          hand_below s.args.step s.args.own.peak s.requires.numbers_ok.0.timed s.args.done _ c.fill_weights-last.ensures.1,
          sums_below s.args.step rain s.args.own s.requires.numbers_ok.0.curved s.requires.numbers_ok.1.0 s.requires.numbers_ok.0.timed s.args.from s.args.done m s.args.sums.now s.requires.window_ok.1,
        ),
      ),
    )

pub returns : goal.returns
returns c =
    let s = S (goal.at.returns c).After-fill_weights-last in
    let tenths = s.args.own.tenths in
    let rain = s.args.rain.now in
    let e = c.fill_depths.ensures in
    let full = deep (goal.at.returns c).After-fill_weights-last ++ drop hand s.args.q.now in record {
      sums_after = c.lay.ensures
          ∙ laid_more s.args.step rain s.args.own s.args.from s.args.done (length s.args.sums.now) _ full s.args.sums.now c.fill_weights-last.ensures.1 (each (goal.at.returns c).After-fill_weights-last) (omega (arith, s.requires.numbers_ok.1.1)) s.requires.window_ok.1;
      window_ok_2 = window_moved tenths rain s.args.from s.args.done (rows (goal.at.returns c).After-fill_weights-last) s.args.q.now s.requires.window_ok.0 (deep (goal.at.returns c).After-fill_weights-last) e _ c.slide.ensures;
      upper_bound = rw c.fill_weights-last.ensures.0 (line_next s.args.own.peak s.args.step s.args.done);
    }
