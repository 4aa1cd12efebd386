-- What is released through a row never falls, is bounded, and is all of a storm that has passed. Assumes nothing.
use mathlib.Core.Path.{◌≡◌, sym, ap, ◌∙◌}
use mathlib.Core.Logic.{⊎_elim}
use mathlib.Core.List.{List}
use Prim.Native.Nat.{ℕ, zero, suc, ◌+◌, ◌-◌, ◌*◌, ◌/◌, ◌≤◌, ◌<◌, min}
use lib.ListN.{length, get_or}
use native.Mathlib.Nat.{eq-or-lt_of_le, le_of_suc-le-suc, le_trans, le_refl, mul-le-mul_left, mul-div_cancel, mul_comm, div-le_of_le-mul, zero-div}
use native.Mathlib.Numerals.{add-one}
use native.Mathlib.Omega.{arith}
use Rattle.laws.specs.Sum.{sum_to}
use Rattle.laws.proofs.Num.{div_rises}
use Rattle.laws.proofs.Sums.{sum_le, sum_same, sum_times, sum_zeros}
use Rattle.curve.specs.Needs.{CurveOk}
use Rattle.laws.specs.Limits.{most_area}
use Rattle.runoff.specs.RunoffDepth.{depth}
use Rattle.runoff.proofs.Rising.{depth_rises, depth_most, depth_bound}
use Rattle.hydrograph.specs.InflowRows.{weight, weight_at, weights, total_weight, runoff_at, term, depth_released, volume_of, volume, part}
use Rattle.hydrograph.specs.Needs.{TimingOk, RainOk}
use Rattle.hydrograph.proofs.Weights.{total_some}

-- the rain never falls, from any entry to any later one
rain_rises : (rain : List ℕ) → RainOk rain → (i j : ℕ) → i ≤ j → j < length rain → get_or rain i 0 ≤ get_or rain j 0
rain_rises rain ok i zero l h = let e : i ≡ 0 = omega arith in rw e (le_refl _)
rain_rises rain ok i (suc j) l h =
    ⊎_elim (λ (e : i ≡ suc j). rw e (le_refl _))
    (λ (k : i < suc j). le_trans (rain_rises rain ok i j (le_of_suc-le-suc k) (omega arith)) (rw add-one at (ok.rising j (omega arith))))
    (eq-or-lt_of_le l)

module _ (c : ℕ) (rain : List ℕ) (curve : CurveOk c) (ok : RainOk rain) where
  -- Q never falls
  pub runoff_rises : (a b : ℕ) → a ≤ b → runoff_at c rain a ≤ runoff_at c rain b
  unfolding runoff_at
  runoff_rises zero b l = omega arith
  runoff_rises (suc a) zero l = absurd (omega arith)
  runoff_rises (suc a) (suc b) l =
      depth_rises c curve (get_or rain (min (suc a) (length rain - 1)) 0) (get_or rain (min (suc b) (length rain - 1)) 0)
      (rain_rises rain ok (min (suc a) (length rain - 1)) (min (suc b) (length rain - 1)) (omega arith) (omega (arith, ok.least)))

  -- Q is at most 30,000,000
  pub runoff_most : (t : ℕ) → runoff_at c rain t ≤ 30000000
  unfolding runoff_at
  runoff_most zero = omega arith
  runoff_most (suc t) =
      depth_bound c curve (get_or rain (min (suc t) (length rain - 1)) 0) (ok.limit (min (suc t) (length rain - 1)) (omega (arith, ok.least)))

  -- Q is the last runoff from the last entry on
  pub runoff_last : (t : ℕ) → length rain - 1 ≤ t → runoff_at c rain t ≡ depth c (get_or rain (length rain - 1) 0)
  unfolding runoff_at
  runoff_last zero l = absurd (omega (arith, ok.least))
  runoff_last (suc t) l = let e : min (suc t) (length rain - 1) ≡ length rain - 1 = omega arith in rw e

  module _ (D Tp : ℕ) (timing : TimingOk D Tp) where
    abbrev W : ℕ
    W = total_weight Tp D

    abbrev sum_at : ℕ → ℕ
    sum_at k = sum_to (λ i. term c Tp D rain k (i + 1)) (weights Tp D)

    some : 0 < W
    some = total_some D Tp timing

    -- released never falls from row to row
    pub released_rises : (a b : ℕ) → a ≤ b → depth_released c Tp D rain a ≤ depth_released c Tp D rain b
    unfolding depth_released
    released_rises a b l =
        div_rises (sum_at a) (sum_at b) W some
        (sum_le (λ i. term c Tp D rain a (i + 1)) (λ i. term c Tp D rain b (i + 1)) (weights Tp D)
        (λ i h. mul-le-mul_left (weight Tp D (i + 1)) (runoff_rises (a + 1 - (i + 1)) (b + 1 - (i + 1)) (omega arith))))

    -- the sum through a row is at most 30,000,000 times W
    pub sum_bound : (k : ℕ) → sum_at k ≤ 30000000 * W
    unfolding total_weight
    sum_bound k =
        omega (
          arith,
          sum_times 30000000 (weight_at Tp D) (weights Tp D),
          sum_le (λ i. term c Tp D rain k (i + 1)) (λ i. 30000000 * weight_at Tp D i) (weights Tp D) (λ i h. omega (arith, mul-le-mul_left (weight Tp D (i + 1)) (runoff_most (k + 1 - (i + 1))))),
        )

    -- so the depth is at most 30,000,000
    pub released_most : (k : ℕ) → depth_released c Tp D rain k ≤ 30000000
    unfolding depth_released
    released_most k = div-le_of_le-mul W (omega (arith, sum_bound k))

    -- no more is ever released than the last runoff depth
    pub released_last : (k : ℕ) → depth_released c Tp D rain k ≤ depth c (get_or rain (length rain - 1) 0)
    unfolding depth_released total_weight
    released_last k =
        let last = depth c (get_or rain (length rain - 1) 0) in
        let most : sum_at k ≤ sum_to (λ i. last * weight_at Tp D i) (weights Tp D) = sum_le (λ i. term c Tp D rain k (i + 1)) (λ i. last * weight_at Tp D i) (weights Tp D) (λ i h. each i) in
        div-le_of_le-mul W (omega (arith, most, sum_times last (weight_at Tp D) (weights Tp D), mul_comm last W))
      where
        each : (i : ℕ) → term c Tp D rain k (i + 1) ≤ depth c (get_or rain (length rain - 1) 0) * weight_at Tp D i
        each i =
            let t = k + 1 - (i + 1) in
            rw (← runoff_last (t + length rain) (omega arith), mul_comm (runoff_at c rain (t + length rain)) (weight_at Tp D i)) (mul-le-mul_left (weight Tp D (i + 1)) (runoff_rises t (t + length rain) (omega arith)))

    -- nothing is released before the first row
    pub released_none : depth_released c Tp D rain 0 ≡ 0
    unfolding sum_to depth_released runoff_at
    released_none = rw (sum_zeros (λ i. term c Tp D rain 0 (i + 1)) 0 (weights Tp D) (omega arith) (λ i l h. nothing i)) (none_of W)
      where
        nothing : (i : ℕ) → term c Tp D rain 0 (i + 1) ≡ 0
        nothing i = let e : 0 + 1 - (i + 1) ≡ 0 = omega arith in rw e (omega arith)

        none_of : (w : ℕ) → sum_to (λ i. term c Tp D rain 0 (i + 1)) 0 / w ≡ 0
        none_of w = zero-div w

    -- once the storm has passed, the last runoff depth itself is released: nothing of it is missing
    pub released_all : (k : ℕ) → length rain - 1 + weights Tp D ≤ k + 1 → depth_released c Tp D rain k ≡ depth c (get_or rain (length rain - 1) 0)
    unfolding depth_released total_weight
    released_all k l =
        let last = depth c (get_or rain (length rain - 1) 0) in
        let same : sum_at k ≡ last * W = sum_same (λ i. term c Tp D rain k (i + 1)) (λ i. last * weight_at Tp D i) (weights Tp D) (λ i h. all i h) ∙ sum_times last (weight_at Tp D) (weights Tp D) in
        rw same (mul-div_cancel last some)
      where
        all : (i : ℕ) → i < weights Tp D → term c Tp D rain k (i + 1) ≡ depth c (get_or rain (length rain - 1) 0) * weight_at Tp D i
        all i h = rw (runoff_last (k + 1 - (i + 1)) (omega arith)) (mul_comm _ _)

    module _ (A : ℕ) where
      -- the volume released never falls from row to row, so no part is below 0
      pub volume_rises : (a b : ℕ) → a ≤ b → volume c A Tp D rain a ≤ volume c A Tp D rain b
      unfolding volume_of
      volume_rises a b l = omega (arith, mul-le-mul_left (363 * A) (released_rises a b l))

      -- it is at most 363 times the area times 30,000,000 / 10,000
      pub volume_most : (k : ℕ) → volume c A Tp D rain k ≤ 1089000 * A
      unfolding volume_of
      volume_most k = omega (arith, mul-le-mul_left (363 * A) (released_most k))

      -- all volume through any row is at most the volume of the last depth
      pub volume_last : (k : ℕ) → volume c A Tp D rain k ≤ volume_of A (depth c (get_or rain (length rain - 1) 0))
      unfolding volume_of
      volume_last k = omega (arith, mul-le-mul_left (363 * A) (released_last k))

      pub volume_none : volume c A Tp D rain 0 ≡ 0
      unfolding volume_of
      volume_none = rw released_none (omega arith)

      -- a row's volume is the row before's with the part of the row
      pub part_adds : (k : ℕ) → volume c A Tp D rain (k + 1) ≡ volume c A Tp D rain k + part c A Tp D rain (k + 1)
      unfolding part
      part_adds k = let e : k + 1 - 1 ≡ k = omega arith in rw e (omega (arith, volume_rises k (k + 1) (omega arith)))

      -- the parts through row k are its volume
      pub parts_sum : (k : ℕ) → sum_to (λ i. part c A Tp D rain (i + 1)) k ≡ volume c A Tp D rain k
      unfolding sum_to
      parts_sum zero = sym volume_none
      parts_sum (suc k) = omega (arith, parts_sum k, part_adds k, ap (volume c A Tp D rain) (add-one k))

-- over subareas whose areas total at most 200,000, the volumes through any row total at most 217,800,000,000
pub inflow_total : (n : ℕ) (c A Tp : ℕ → ℕ) (D : ℕ) (rain : List ℕ) (k : ℕ) → RainOk rain
    → ((s : ℕ) → s < n → CurveOk (c s) × TimingOk D (Tp s))
    → sum_to A n ≤ most_area → sum_to (λ s. volume (c s) (A s) (Tp s) D rain k) n ≤ 217800000000
inflow_total n c A Tp D rain k ok each area =
    omega (
      arith,
      sum_times 1089000 A n,
      sum_le (λ s. volume (c s) (A s) (Tp s) D rain k) (λ s. 1089000 * A s) n
          (λ s l. volume_most (c s) rain (each s l).0 ok D (Tp s) (each s l).1 (A s) k),
    )

-- Q from the one before: a rain entry's own runoff while there are entries, then the same again
pub runoff_own : (c : ℕ) (rain : List ℕ) → CurveOk c → RainOk rain → (t : ℕ) → t < length rain → depth c (get_or rain t 0) ≡ runoff_at c rain t
unfolding runoff_at
runoff_own c rain curve ok zero l = rw ok.first (omega (arith, depth_most c curve 0))
runoff_own c rain curve ok (suc t) l = let e : min (suc t) (length rain - 1) ≡ suc t = omega arith in rw e

pub runoff_stays : (c : ℕ) (rain : List ℕ) → CurveOk c → RainOk rain → (t : ℕ) → length rain ≤ t → runoff_at c rain (t - 1) ≡ runoff_at c rain t
runoff_stays c rain curve ok t l =
    runoff_last c rain curve ok (t - 1) (omega arith) ∙ sym (runoff_last c rain curve ok t (omega arith))
