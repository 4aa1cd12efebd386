-- How large the weights are, how many, and that their sum is above 0. Assumes nothing.
use mathlib.Core.Path.{◌≡◌, sym, ap, subst}
use mathlib.Core.Logic.{⊎_elim}
use Prim.Native.Nat.{ℕ, zero, suc, ◌+◌, ◌-◌, ◌*◌, ◌≤◌, ◌<◌}
use native.Mathlib.Nat.{eq-zero-or-pos, mul-le-mul_right, div-mul-le_self, div-le_of_le-mul, le-div_iff_mul-le}
use native.Mathlib.Numerals.{add-one}
use native.Mathlib.Omega.{arith}
use Rattle.laws.specs.Sum.{sum_to}
use Rattle.laws.proofs.Sums.{sum_most, sum_term}
use Rattle.hydrograph.specs.InflowRows.{time, ratio, line_at, on_line, weight_on, weight, weight_at, weights, total_weight}
use Rattle.hydrograph.specs.Needs.{LineOk, TimingOk}
use Rattle.hydrograph.proofs.Lines.{OnLine, on_line_lem, line_within, line_ok, on_line_most, on_line_least, time_first, time_second, time_peak, ratio_first, ratio_second, ratio_least}

-- knots 1 to 10 are at 30 or more
high : (k : ℕ) → 0 < k → k ≤ 10 → 30 ≤ ratio k
high zero p l = absurd (omega arith)
high (suc m) p l = rw add-one at (ratio_least m (omega arith))

-- on the first line 1000 times a value is above 0 from a 30,000th of Tp on
first_line : (Tp t : ℕ) → 0 < Tp → Tp ≤ 30000 * t → 0 < weight_on Tp t 0
unfolding on_line
first_line Tp t some l =
    rw (time_first, time_second, ratio_first, ratio_second)
    ((le-div_iff_mul-le {k = 1 * Tp - 0 * Tp} (omega arith)).1 (omega arith))

module _ (D Tp : ℕ) (ok : TimingOk D Tp) where
  pub peak_some : 0 < Tp
  peak_some = omega (arith, ok.step_least, ok.coarse)

  pub peak_most : Tp ≤ 400000
  peak_most = omega (arith, ok.step_most, ok.short)

  -- at most 512 weights, and 5 at least
  pub weights_most : weights Tp D ≤ 512
  weights_most = div-le_of_le-mul D (omega (arith, ok.short))

  pub weights_least : 5 ≤ weights Tp D
  weights_least = (le-div_iff_mul-le {k = D} (omega (arith, ok.step_least))).1 (omega (arith, ok.coarse))

  -- each at a time up to 5 Tp
  pub in_time : (j : ℕ) → j ≤ weights Tp D → j * D ≤ 5 * Tp
  in_time j l = omega (arith, mul-le-mul_right D l, div-mul-le_self (5 * Tp) D)

  module _ (j : ℕ) (early : j * D ≤ 5 * Tp) where
    -- its time lies on a line of the shape
    pub weight_on_lem : OnLine Tp (10 * (j * D)) (line_at Tp (10 * (j * D)))
    weight_on_lem = on_line_lem Tp (10 * (j * D)) (omega arith)

    -- each at most 1,000,000
    pub weight_most : weight Tp D j ≤ 1000000
    unfolding weight
    weight_most =
        let t = 10 * (j * D) in
        let i = line_at Tp t in
        on_line_most t (time i * Tp) (time (i + 1) * Tp) (ratio i) (ratio (i + 1)) (line_ok Tp t i peak_some peak_most weight_on_lem)

  -- so the first n come to n times that at most
  pub total_to : (n : ℕ) → n ≤ weights Tp D → sum_to (weight_at Tp D) n ≤ n * 1000000
  total_to n l = sum_most (weight_at Tp D) 1000000 n (λ i k. weight_most (i + 1) (in_time (i + 1) (omega arith)))

  -- the first is above 0: its time is not past the peak, and no nearer to 0 than a 512th of 5 Tp
  pub weight_first : 0 < weight Tp D 1
  unfolding weight
  weight_first = ⊎_elim rising_line far_line (eq-zero-or-pos i)
    where
      t : ℕ
      t = 10 * (1 * D)

      i : ℕ
      i = line_at Tp t

      on : LineOk t (time i * Tp) (time (i + 1) * Tp) (ratio i) (ratio (i + 1))
      on = line_ok Tp t i peak_some peak_most (weight_on_lem 1 (omega (arith, ok.coarse)))

      rising_line : i ≡ 0 → 0 < weight_on Tp t i
      rising_line e = subst (λ (z : ℕ). 0 < weight_on Tp t z) (sym e) (first_line Tp t peak_some (omega (arith, ok.short)))

      far_line : 0 < i → 0 < weight_on Tp t i
      far_line p =
          let near : i ≤ 9 = line_within Tp t 9 (omega (arith, ap (λ (z : ℕ). z * Tp) time_peak, ok.coarse)) in
          omega (arith, on_line_least 30 t (time i * Tp) (time (i + 1) * Tp) (ratio i) (ratio (i + 1)) on (high i p (omega arith)) (high (i + 1) (omega arith) (omega arith)))

  pub total_some : 0 < total_weight Tp D
  unfolding total_weight
  total_some = omega (arith, weight_first, sum_term (weight_at Tp D) 0 (weights Tp D) (omega (arith, weights_least)))
