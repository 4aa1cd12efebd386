-- Document 01, 'Travel time', with the sheet and channel flow of Q-2: segment times, the time of concentration Tc and the time to peak Tp, in whole seconds.
use Rattle.std.specs.Prelude.{◌≡◌, Bool, true, false, ◌&&◌, List, ℕ, ◌+◌, ◌*◌, ◌/◌, ◌^◌, ◌<◌, max, length, get_or, eqb}
use Rattle.laws.specs.Pick.{pick}
use Rattle.laws.specs.Flat.{flat_good}
use Rattle.laws.specs.Sum.{sum_to}
use Rattle.laws.specs.Within.{within}
use Rattle.roots.specs.Largest.{largest, powers, most_square, most_power}

-- a list of segments is flat, five numbers a segment: kind, length L in ft, and by the kind
--   1, 2: slope s in ten-thousandths
--   3: velocity v in hundredths of a ft/s
--   4: n in thousandths, 2-year rain P in thousandths of an inch, slope
--   5: n, hydraulic radius r in hundredths of a ft, slope
-- what stands past a kind's own numbers is spare
abbrev pub segment_width : ℕ
segment_width = 5

abbrev pub most_segments : ℕ
most_segments = 6

abbrev pub segments_in : List ℕ → ℕ
segments_in g = length g / segment_width

-- number j of segment i, both from 0
abbrev pub number_of : List ℕ → ℕ → ℕ → ℕ
number_of g i j = get_or g (segment_width * i + j) 0

abbrev pub kind : List ℕ → ℕ → ℕ
kind g i = number_of g i 0

-- K of kind 1, unpaved, and of kind 2, paved
abbrev pub unpaved : ℕ
unpaved = 161345

abbrev pub paved : ℕ
paved = 203282

-- kinds 1 and 2: the largest whole T whose square is at most L^2 10^12 / (K^2 s); within the limits none above 2^15 - 1 passes
unfoldable pub shallow : ℕ → ℕ → ℕ → ℕ
shallow K L s = largest (powers 2 (K * K * s) (L * L * 1000000000000)) most_square

-- kind 3: 100 L / v, down
abbrev pub given : ℕ → ℕ → ℕ
given L v = 100 * L / v

-- kind 4, sheet: the largest whole T with T^10 P^5 s^4 at most 25.2^10 (n L)^8, all taken as exact fractions
-- in lent numbers the left side is over 10^31 (P^5 over 10^15, s^4 over 10^16), the right over 10^34 (25.2^10 over 10^10, n^8 over 10^24)
-- both are taken times 10^34, which leaves 10^3 on the left
-- within the limits none above 2^23 - 1 passes
unfoldable pub sheet : ℕ → ℕ → ℕ → ℕ → ℕ
sheet L n P s = largest (powers 10 (P ^ 5 * s ^ 4 * 1000) (252 ^ 10 * (n * L) ^ 8)) most_power

-- kind 5, channel: the largest whole T with T^6 1.49^6 r^4 s^3 at most (n L)^6, likewise
-- in lent numbers the left side is over 10^32 (1.49^6 over 10^12, r^4 over 10^8, s^3 over 10^12), the right over 10^18 (n^6)
-- both are taken times 10^32, which leaves 10^14 on the right
unfoldable pub channel : ℕ → ℕ → ℕ → ℕ → ℕ
channel L n r s = largest (powers 6 (149 ^ 6 * r ^ 4 * s ^ 3) ((n * L) ^ 6 * 10 ^ 14)) most_power

-- the time of one segment, by its kind
unfoldable pub segment_time : ℕ → ℕ → ℕ → ℕ → ℕ → ℕ
segment_time k L a b c =
    pick (eqb k 1) (shallow unpaved L a)
    (pick (eqb k 2) (shallow paved L a)
    (pick (eqb k 3) (given L a)
    (pick (eqb k 4) (sheet L a b c)
    (channel L a b c))))

-- the time of segment i of a list
abbrev pub segment_time_at : List ℕ → ℕ → ℕ
segment_time_at g i = segment_time (kind g i) (number_of g i 1) (number_of g i 2) (number_of g i 3) (number_of g i 4)

-- Tc: the sum, raised to 360 if less
unfoldable pub concentration : List ℕ → ℕ
concentration g = max 360 (sum_to (segment_time_at g) (segments_in g))

-- Tp = 3 Tc / 5, down, plus h, half the step D
unfoldable pub time_to_peak : ℕ → ℕ → ℕ
time_to_peak D tc = 3 * tc / 5 + D / 2

-- the sheet rule that a study names (Q-4) is 1, TR-55 of 1986, or 2, WinTR-55 and NEH 630 chapter 15; sheet flow runs at most 300 ft by 1, and 100 by 2
unfoldable pub rule_good : ℕ → Bool
rule_good rule = within 1 rule 2

unfoldable pub sheet_limit : ℕ → ℕ
sheet_limit rule = pick (eqb rule 1) 300 100

-- the limits of kinds 1, 2 and 3, of kind 4, where M is how far sheet flow may run, and of kind 5
abbrev pub rated_within : ℕ → ℕ → Bool
rated_within L r = within 1 L 4000 && within 1 r 10000

abbrev pub sheet_within : ℕ → ℕ → ℕ → ℕ → ℕ → Bool
sheet_within M L n P s = (within 1 L M && within 1 n 999) && (within 1 P 30000 && within 1 s 10000)

abbrev pub channel_within : ℕ → ℕ → ℕ → ℕ → Bool
channel_within L n r s = (within 1 L 4000 && within 1 n 999) && (within 1 r 10000 && within 1 s 10000)

-- the limits of a segment, by its kind
unfoldable pub segment_within : ℕ → ℕ → ℕ → ℕ → ℕ → ℕ → Bool
segment_within M k L a b c =
    pick (within 1 k 3) (rated_within L a)
    (pick (eqb k 4) (sheet_within M L a b c)
    (pick (eqb k 5) (channel_within L a b c)
    false))

-- a segment of kind 4 stands first
unfoldable pub place_within : ℕ → ℕ → Bool
place_within k i = pick (eqb k 4) (eqb i 0) true

abbrev pub segment_good : ℕ → List ℕ → ℕ → Bool
segment_good M g i =
    place_within (kind g i) i && segment_within M (kind g i) (number_of g i 1) (number_of g i 2) (number_of g i 3) (number_of g i 4)

-- 1 to 6 whole segments, each within its limits
unfoldable pub segments_good : ℕ → List ℕ → Bool
segments_good M g = flat_good segment_width most_segments (segment_good M g) g

-- segment i of two lists of which the same is read: the fourth and the fifth number of kinds 1, 2 and 3 are spare
pub record SameSegment (g q : List ℕ) (i : ℕ) : Type 0 where
  pub first : kind g i ≡ kind q i
  pub second : number_of g i 1 ≡ number_of q i 1
  pub third : number_of g i 2 ≡ number_of q i 2
  pub fourth : within 1 (kind g i) 3 ≡ false → number_of g i 3 ≡ number_of q i 3
  pub fifth : within 1 (kind g i) 3 ≡ false → number_of g i 4 ≡ number_of q i 4

-- two lists of segments of which the same is read
pub record SameSegments (g q : List ℕ) : Type 0 where
  pub long : length g ≡ length q
  pub each : (i : ℕ) → i < segments_in g → SameSegment g q i
