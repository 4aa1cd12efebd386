-- The textbook's depths, volumes and parts are those of the first engine's definitions. Assumes nothing.
use mathlib.Core.Path.{◌≡◌, refl, ap, ◌∙◌}
use mathlib.Core.List.{List}
use Prim.Native.Nat.{ℕ, zero, suc, ◌+◌, ◌-◌, ◌*◌, ◌/◌, ◌≤◌, ◌<◌, min}
use native.Mathlib.Omega.{arith}
use Rattle.laws.specs.Sum.{sum_from1}
use Rattle.laws.proofs.Sums.{sum_same}
use Rattle.laws.proofs.Laying.{laid_through}
use Rattle.curve.specs.Needs.{CurveOk}
use Rattle.hydrograph.specs.InflowRows.{weight, weights, total_weight, runoff_at, term, depth_released, part}
use Rattle.hydrograph.specs.Needs.{TimingOk, RainOk}
use Rattle.hydrograph.proofs.Released.{runoff_rises, runoff_own, volume_rises}
use Rattle.textbook.specs.Textbook.{rain_steps, runoff_of, added, laid, depth_laid, volume_laid, part_laid}

-- the runoff added in a rain step, from the runoffs of its two entries
pub added_is : (c : ℕ) (rain : List ℕ) (t through before : ℕ) → 1 ≤ t → through ≡ runoff_of c rain t → before ≡ runoff_of c rain (t - 1) → through - before ≡ added c rain (t - 1 + 1)
unfolding added
added_is c rain t through before some e d = let up : t - 1 + 1 ≡ t = omega arith in rw (up, e, d)

module _ (c : ℕ) (rain : List ℕ) (curve : CurveOk c) (ok : RainOk rain) where
  -- the runoff of entry 0 is 0
  pub runoff_start : runoff_of c rain 0 ≡ 0
  unfolding runoff_at
  runoff_start = runoff_own c rain curve ok 0 (omega (arith, ok.least))

  -- and runoff never falls from entry to entry, so that what is added is exact
  pub runoff_up : (t : ℕ) → t < rain_steps rain → runoff_of c rain t ≤ runoff_of c rain (t + 1)
  runoff_up t l =
      omega (
        arith,
        runoff_own c rain curve ok t (omega arith),
        runoff_own c rain curve ok (t + 1) (omega arith),
        runoff_rises c rain curve ok t (t + 1) (omega arith),
      )

  -- the runoff of entry s, or of the last entry where there is none, is Q at s
  runoff_is : (s : ℕ) → runoff_of c rain (min s (rain_steps rain)) ≡ runoff_at c rain s
  unfolding runoff_at
  runoff_is zero = let e : min 0 (rain_steps rain) ≡ 0 = omega arith in rw e runoff_start
  runoff_is (suc s) = refl

  module _ (Tp D : ℕ) where
    -- all that is laid into the rows up to k is the first engine's sum through row k
    pub sums_agree : (k : ℕ) → sum_from1 (laid c Tp D rain) k ≡ sum_from1 (term c Tp D rain k) (weights Tp D)
    unfolding added
    sums_agree k =
        laid_through (runoff_of c rain) (weight Tp D) (rain_steps rain) runoff_start runoff_up (weights Tp D) k
        ∙ sum_same (λ j. weight Tp D (j + 1) * runoff_of c rain (min (k + 1 - (j + 1)) (rain_steps rain))) (λ j. term c Tp D rain k (j + 1)) (weights Tp D)
        (λ j l. ap (λ (z : ℕ). weight Tp D (j + 1) * z) (runoff_is (k + 1 - (j + 1))))

    -- so is the depth through a row
    pub depth_agrees : (k : ℕ) → depth_laid c Tp D rain k ≡ depth_released c Tp D rain k
    unfolding depth_laid depth_released
    depth_agrees k = ap (λ (z : ℕ). z / total_weight Tp D) (sums_agree k)

    -- which never falls, so that no part is below 0
    pub laid_rises : TimingOk D Tp → (A a b : ℕ) → a ≤ b → volume_laid c A Tp D rain a ≤ volume_laid c A Tp D rain b
    laid_rises timing A a b l = rw (depth_agrees a, depth_agrees b) (volume_rises c rain curve ok D Tp timing A a b l)

    -- and a subarea's part of it
    pub part_agrees : (A k : ℕ) → part_laid c A Tp D rain k ≡ part c A Tp D rain k
    unfolding part_laid part
    part_agrees A k = rw (depth_agrees k, depth_agrees (k - 1))
