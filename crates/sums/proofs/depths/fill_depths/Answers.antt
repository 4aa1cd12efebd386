-- `sums::depths::fill_depths` meets its contract. Assumes nothing.
use mathlib.Core.Path.{◌≡◌, sym, ap, ◌∙◌}
use Prim.Native.Nat.{ℕ, ◌+◌, ◌-◌}
use native.Mathlib.Omega.{arith}
use lib.ListN.{length, length-set}
use Rattle.laws.specs.Listed.{rows_from}
use Rattle.hydrograph.specs.InflowRows.{runoff_at}
use Rattle.sums.proofs.Deepening.{depth_stays, deepening_end}
use Rattle.sums.proofs.depths.fill_depths.Goals as goal
use Rattle.sums.proofs.depths.fill_depths.Goals.{At-loop-i, Joined-back-k, Start, then-back-k, else-back-k}

-- the function's entry, from the head of its loop
abbrev start : At-loop-i → Start
start a = (goal.at.At-loop-i a).Start

-- the first depth's place leaves as many
long : (a : At-loop-i) → length a.loop-i.list ≡ length (start a).args.list.now
long a = a.loop-i.invariant.long ∙ length-set (start a).args.list.now 0 a.depth_at-last.result

-- the depth due, where the arms meet
abbrev Due : Joined-back-k → Type 0
Due c =
    let s = start (goal.at.Joined-back-k c).At-loop-i in
    c.if-back-k.last ≡ runoff_at s.args.tenths s.args.rain.now (s.args.first + c.loop-i.i - s.args.back)

due : (c : Joined-back-k) → Due c
due c =
    let s = start (goal.at.Joined-back-k c).At-loop-i in
    elim c.if-back-k.branch [
      | then-back-k w ↦ w.last-is ∙ w.depth_after-last.ensures
      | else-back-k w ↦ w.last-is ∙ depth_stays s.args.tenths s.args.rain.now s.args.first s.args.back c.loop-i.invariant (omega (arith, w.if-back-k.false))
    ]

pub returns : goal.returns
returns c =
    let s = start (goal.at.returns c).At-loop-i in
    deepening_end s.args.tenths s.args.rain.now s.args.first s.args.back c.loop-i.invariant (omega (arith, c.loop-i.invariant.long))
    ∙ ap (rows_from (λ (k : ℕ). runoff_at s.args.tenths s.args.rain.now (k - s.args.back)) s.args.first) (sym c.loop-i.invariant.long ∙ long (goal.at.returns c).At-loop-i)
