-- What the travel time is: the root of kinds 1 and 2 is the largest of all whole numbers, and times of all kinds are within bounds. Assumes nothing.
use mathlib.Core.Path.{◌≡◌}
use mathlib.Core.List.{List}
use mathlib.Core.Logic.{◌↔◌}
use Prim.Native.Nat.{ℕ, ◌+◌, ◌*◌, ◌/◌, ◌^◌, ◌≤◌, ◌<◌}
use lib.Dec.{leb, eqb}
use native.Mathlib.Nat.{mul-one, mul-le-mul, mul-le-mul_right, le-div_iff_mul-le, div-lt_iff_lt-mul, div-le_of_le-mul}
use native.Mathlib.Omega.{arith}
use borrow.Author.Tests.{eqb-true, eqb-false}
use Rattle.laws.specs.Pick.{pick}
use Rattle.laws.specs.Sum.{sum_to}
use Rattle.laws.proofs.Tests.{by_test, leb_same}
use Rattle.laws.proofs.Sums.{sum_most}
use Rattle.roots.specs.Largest.{largest, powers, most_square}
use Rattle.roots.proofs.Bisect.{largest_same, largest_bound}
use Rattle.roots.proofs.Powers.{powers_is}
use Rattle.travel.specs.TravelTime.{segments_in, most_segments, unpaved, paved, shallow, given, sheet, channel, segment_time, segment_time_at, concentration, time_to_peak}
use Rattle.travel.specs.Needs.{RatedOk, ShallowOk, SegmentOk, SegmentsOk, TimeOk, most_segment_time}
use Rattle.travel.proofs.Roots.{sheet_most, channel_most}

-- a test against a quotient, down, is the test multiplied out
pub leb_div : (x a b : ℕ) → 0 < b → leb x (a / b) ≡ leb (x * b) a
leb_div x a b pos = leb_same x (a / b) (x * b) a (le-div_iff_mul-le pos).1 (div-lt_iff_lt-mul pos).1

module _ {K L s : ℕ} (ok : ShallowOk K L s) where
  -- L^2 10^12 fits 64 bits
  pub top_most : L * L * 1000000000000 ≤ 16000000000000000000
  top_most = mul-le-mul_right 1000000000000 (mul-le-mul ok.length_most ok.length_most)

  -- K^2 s is no less than at the smaller K and the least slope
  pub bottom_least : 26032209025 ≤ K * K * s
  bottom_least = mul-le-mul (mul-le-mul ok.constant_least ok.constant_least) ok.slope_least

  -- the square of which the root is taken
  pub square_most : L * L * 1000000000000 / (K * K * s) < 2 ^ 30
  square_most = (div-lt_iff_lt-mul {k = K * K * s} (omega (arith, bottom_least))).1 (omega (arith, top_most, bottom_least))

  -- the root of the quotient is the largest T of the rule
  pub shallow_root : largest (powers 2 1 (L * L * 1000000000000 / (K * K * s))) most_square ≡ shallow K L s
  unfolding shallow
  shallow_root =
      largest_same (powers 2 1 (L * L * 1000000000000 / (K * K * s))) (powers 2 (K * K * s) (L * L * 1000000000000))
      (λ t. rw mul-one (leb_div (t ^ 2) (L * L * 1000000000000) (K * K * s) (omega (arith, bottom_least)))) most_square

  -- it is the largest of all whole numbers, whatever the bound of the search
  pub shallow_is : (T : ℕ) → (T ^ 2 * (K * K * s) ≤ L * L * 1000000000000) ↔ (T ≤ shallow K L s)
  unfolding shallow
  shallow_is = powers_is 2 (K * K * s) (L * L * 1000000000000) most_square (omega arith) (omega (arith, top_most, bottom_least))

-- a time of kinds 1 and 2 has 15 bits
pub shallow_most : (K L s : ℕ) → shallow K L s ≤ most_square
unfolding shallow
shallow_most K L s = largest_bound (powers 2 (K * K * s) (L * L * 1000000000000)) most_square

-- a time of kind 3 is at most that of 4000 ft at a hundredth of a ft/s
pub given_most : {L v : ℕ} → RatedOk L v → given L v ≤ 400000
given_most {L} {v} ok = div-le_of_le-mul v (omega (arith, mul-le-mul ok.rate_least ok.length_most))

-- a segment's time, by its kind
module _ {k L a b c : ℕ} (ok : SegmentOk k L a b c) where
  abbrev Few : ℕ → Type 0
  Few t = t ≤ most_segment_time

  pub segment_most : segment_time k L a b c ≤ most_segment_time
  unfolding segment_time
  segment_most =
      by_test Few (eqb k 1) (shallow unpaved L a) (pick (eqb k 2) (shallow paved L a) (pick (eqb k 3) (given L a) (pick (eqb k 4) (sheet L a b c) (channel L a b c))))
      (λ e. omega (arith, shallow_most unpaved L a))
      (λ one. by_test Few (eqb k 2) (shallow paved L a) (pick (eqb k 3) (given L a) (pick (eqb k 4) (sheet L a b c) (channel L a b c)))
      (λ e. omega (arith, shallow_most paved L a))
      (λ two. by_test Few (eqb k 3) (given L a) (pick (eqb k 4) (sheet L a b c) (channel L a b c))
      (λ e. omega (arith, given_most (ok.rated (omega (arith, eqb-true k 3 e)))))
      (λ three. by_test Few (eqb k 4) (sheet L a b c) (channel L a b c)
      (λ e. omega (arith, sheet_most (ok.sheeted (eqb-true k 4 e))))
      (λ four. channel_most (ok.channelled (omega (arith, ok.kind_least, ok.kind_most, eqb-false k 1 one, eqb-false k 2 two, eqb-false k 3 three, eqb-false k 4 four)))))))

module _ {g : List ℕ} (ok : SegmentsOk g) where
  -- the sum over the first n segments
  pub sum_bound : (n : ℕ) → n ≤ segments_in g → sum_to (segment_time_at g) n ≤ most_segment_time * n
  sum_bound n l = omega (arith, sum_most (segment_time_at g) most_segment_time n (λ i h. segment_most (ok.each i (omega arith))))

  -- the time of concentration is one that the time to peak is asked at
  pub concentration_ok : TimeOk (concentration g)
  unfolding concentration
  concentration_ok = record { least = omega arith; most = omega (arith, sum_bound (segments_in g) (omega arith), ok.most) }

-- a time to peak is at least 3 fifths of 360 and half the step
pub peak_least : (D : ℕ) {tc : ℕ} → TimeOk tc → 216 + D / 2 ≤ time_to_peak D tc
unfolding time_to_peak
peak_least D ok = omega arith

-- and at most 3 fifths of the greatest Tc and half the step
pub peak_most : (D : ℕ) {tc : ℕ} → TimeOk tc → time_to_peak D tc ≤ 3 * (most_segments * most_segment_time) / 5 + D / 2
unfolding time_to_peak
peak_most D ok = omega arith
