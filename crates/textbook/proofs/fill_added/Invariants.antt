-- `textbook::fill_added` meets its contract. Assumes nothing.
use mathlib.Core.Path.{◌≡◌}
use Prim.Native.Nat.{◌+◌, ◌-◌, ◌≤◌}
use lib.ListN.{length}
use Rattle.laws.specs.Filled.{Filled}
use Rattle.textbook.specs.Textbook.{runoff_of, added}
use Rattle.textbook.proofs.fill_added.Given as goal

-- the steps before t are in the list, and before is the runoff of the entry before
abbrev pub invariant-loop-t : goal.invariant-loop-t
invariant-loop-t l =
    (1 ≤ l.t) × ((l.t ≤ length l.rain) × ((length l.list ≡ 2000) × ((l.before ≡ runoff_of l.tenths l.rain (l.t - 1)) × Filled (λ i. added l.tenths l.rain (i + 1)) (l.t - 1) l.list)))
