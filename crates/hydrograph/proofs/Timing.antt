-- What passing refusals 10 and 11 leaves, and at which steps they come. Assumes nothing.
use mathlib.Core.Path.{◌≡◌}
use mathlib.Core.Bool.{true, false}
use Prim.Native.Nat.{ℕ, ◌*◌, ◌≤◌, ◌<◌}
use native.Mathlib.Omega.{arith}
use borrow.Author.Tests.{leb-true, leb-false}
use Rattle.laws.specs.Limits.{least_step, most_step, most_time, most_weights}
use Rattle.travel.specs.TravelTime.{time_to_peak}
use Rattle.travel.specs.Needs.{TimeOk}
use Rattle.travel.proofs.Times.{peak_least}
use Rattle.hydrograph.specs.InflowRows.{peak_good, weights_good}
use Rattle.hydrograph.specs.Needs.{TimingOk}

-- a Tc that passes 10 and 11 has a Tp that the weights can be worked out for
pub timing_ok : (D tc : ℕ) → least_step ≤ D → D ≤ most_step → peak_good D tc ≡ true → weights_good D tc ≡ true → TimingOk D (time_to_peak D tc)
unfolding peak_good weights_good
timing_ok D tc lo hi ten eleven = record { step_least = lo; step_most = hi; coarse = leb-true _ _ ten; short = leb-true _ _ eleven }

-- 10 comes at no step up to 432, whatever the Tc
pub ten_above : (D : ℕ) {tc : ℕ} → TimeOk tc → peak_good D tc ≡ false → 432 < D
unfolding peak_good
ten_above D {tc} ok ten = omega (arith, leb-false D (time_to_peak D tc) ten, peak_least D ok)

-- 11 comes at no step from 212 on, where 9 passes
pub eleven_below : (D tc : ℕ) → tc ≤ most_time → weights_good D tc ≡ false → D < 212
unfolding time_to_peak weights_good
eleven_below D tc early eleven = omega (arith, leb-false (5 * time_to_peak D tc) (most_weights * D) eleven)

-- so that no step has both, of one Tc or of two
pub not_both : (D : ℕ) {tc : ℕ} (other : ℕ) → TimeOk tc → other ≤ most_time → peak_good D tc ≡ false → weights_good D other ≡ false → ⊥
not_both D other ok early ten eleven = omega (arith, ten_above D ok ten, eleven_below D other early eleven)
