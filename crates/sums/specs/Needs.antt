-- A subarea's numbers, the sums that its parts are worked out of, and what contracts ask of both; no rule of document 01 is here.
use Rattle.std.specs.Prelude.{◌≡◌, List, ℕ, ◌+◌, ◌-◌, ◌*◌, ◌≤◌, ◌<◌, length, get_or}
use Rattle.laws.specs.Sum.{sum_to}
use Rattle.laws.specs.Limits.{most_area}
use Rattle.curve.specs.Needs.{CurveOk}
use Rattle.hydrograph.specs.InflowRows.{total_weight, runoff_at}
use Rattle.hydrograph.specs.Needs.{hand, weighed, product, TimingOk}
use Rattle.sums.specs.declared.Numbers.{Numbers}

-- rows of a block
abbrev pub block_rows : ℕ
block_rows = 31

-- numbers that parts can be worked out of
pub record NumbersOk (D : ℕ) (own : Numbers) : Type 0 where
  pub curved : CurveOk own.tenths
  pub area_most : own.area ≤ most_area
  pub timed : TimingOk D own.peak
  pub whole : own.total ≡ total_weight own.peak D

-- the sum through row k, of the first n weights
unfoldable pub sum_of : ℕ → List ℕ → Numbers → ℕ → ℕ → ℕ
sum_of D rain own n k = sum_to (λ g. weighed own.peak D g * runoff_at own.tenths rain (k - g)) n

-- what a hand of weights w adds to the sum in place k - 1, of depths q that begin a hand before the first sum's next
abbrev pub handful : List ℕ → List ℕ → ℕ → ℕ
handful w q k = sum_to (product w q (k + 6)) hand

-- the sum in place k of a list of depths q, of the first n weights
unfoldable pub sum_in : ℕ → Numbers → List ℕ → ℕ → ℕ → ℕ
sum_in D own q n k = sum_to (λ g. weighed own.peak D g * get_or q (k - g) 0) n

-- before the hand of weights after the first `done`: the window's places from a hand on have the depths that the sums of n rows after row `from` ask for next
pub record WindowOk (c : ℕ) (rain : List ℕ) (from done n : ℕ) (q : List ℕ) : Type 0 where
  pub long : length q ≡ block_rows + hand
  pub each : (x : ℕ) → x < n → get_or q (hand + x) 0 ≡ runoff_at c rain (from + 1 + x - done)

-- the first n numbers a hand up
pub record Slid (n : ℕ) (l q : List ℕ) : Type 0 where
  pub long : length q ≡ length l
  pub each : (x : ℕ) → x < n → get_or q (hand + x) 0 ≡ get_or l x 0
