-- Filling a list with depths: the invariant of that loop. Assumes nothing.
use mathlib.Core.Path.{◌≡◌, ap, ◌∙◌}
use mathlib.Core.List.{List}
use Prim.Native.Nat.{ℕ, ◌+◌, ◌-◌, ◌≤◌}
use native.Mathlib.Omega.{arith}
use lib.ListN.{length}
use Rattle.laws.specs.Filled.{Filled}
use Rattle.laws.specs.Listed.{rows_from}
use Rattle.laws.proofs.Listed.{rows_are}
use Rattle.hydrograph.specs.InflowRows.{runoff_at}

-- before place i: the depths before it stand in the list, and last is Q one before the depth due
pub record Deepening (c : ℕ) (rain : List ℕ) (first back m : ℕ) (list : List ℕ) (last i : ℕ) : Type 0 where
  pub at : i ≤ m
  pub long : length list ≡ m
  pub before : last ≡ runoff_at c rain (first + i - (back + 1))
  pub filled : Filled (λ j. runoff_at c rain (first + j - back)) i list

module _ (c : ℕ) (rain : List ℕ) (first back : ℕ) where
  module _ {m : ℕ} {list : List ℕ} {last i : ℕ} (so : Deepening c rain first back m list last i) where
    -- the depth due is the last one again while `back` is no less than its place
    pub depth_stays : first + i ≤ back → last ≡ runoff_at c rain (first + i - back)
    depth_stays l = let k : first + i - (back + 1) ≡ first + i - back = omega arith in so.before ∙ ap (runoff_at c rain) k

    -- the list is filled when none is due
    pub deepening_end : m ≤ i → list ≡ rows_from (λ (k : ℕ). runoff_at c rain (k - back)) first m
    deepening_end l = rows_are (λ (k : ℕ). runoff_at c rain (k - back)) first m list so.long (λ j h. so.filled.each j (omega arith))
