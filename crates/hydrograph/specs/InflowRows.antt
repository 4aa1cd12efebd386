-- Document 01, 'Inflow rows': the shape, the weights, the depth and the volume released through a row, a subarea's parts.
use Rattle.std.specs.Prelude.{Bool, List, [], ◌∷◌, map, ℕ, zero, suc, ◌+◌, ◌-◌, ◌*◌, ◌/◌, min, length, get_or, leb, ltb}
use Rattle.laws.specs.Scan.{scan}
use Rattle.laws.specs.Sum.{sum_to, sum_from1}
use Rattle.laws.specs.Limits.{most_time, most_weights}
use Rattle.runoff.specs.RunoffDepth.{depth}
use Rattle.travel.specs.TravelTime.{time_to_peak}

pub record Knot : Type 0 where
  pub time : ℕ
  pub ratio : ℕ

abbrev pub ◌∶◌ : ℕ → ℕ → Knot
t ∶ y = record { time = t; ratio = y }

infix 80 ◌∶◌
-- the shape, NEH 630 table 16-1: time in tenths of Tp ∶ thousandths of the peak
unfoldable pub shape : List Knot
shape =
    0 ∶ 0 ∷ 1 ∶ 30 ∷ 2 ∶ 100 ∷ 3 ∶ 190 ∷ 4 ∶ 310 ∷ 5 ∶ 470 ∷ 6 ∶ 660 ∷ 7 ∶ 820 ∷ 8 ∶ 930 ∷ 9 ∶ 990 ∷ 10 ∶ 1000
    ∷ 11 ∶ 990 ∷ 12 ∶ 930 ∷ 13 ∶ 860 ∷ 14 ∶ 780 ∷ 15 ∶ 680 ∷ 16 ∶ 560 ∷ 17 ∶ 460 ∷ 18 ∶ 390 ∷ 19 ∶ 330 ∷ 20 ∶ 280
    ∷ 22 ∶ 207 ∷ 24 ∶ 147 ∷ 26 ∶ 107 ∷ 28 ∶ 77 ∷ 30 ∶ 55 ∷ 32 ∶ 40 ∷ 34 ∶ 29 ∷ 36 ∶ 21 ∷ 38 ∶ 15 ∷ 40 ∶ 11 ∷ 45 ∶ 5 ∷ 50 ∶ 0
    ∷ []

-- the time and the ratio of knot i, from 0 to 32
unfoldable pub time : ℕ → ℕ
unfolding shape
time i = get_or (map (λ (k : Knot). k.time) shape) i 0

unfoldable pub ratio : ℕ → ℕ
unfolding shape
ratio i = get_or (map (λ (k : Knot). k.ratio) shape) i 0

-- times are told in tenths of a second, so that knot i stands at time i times Tp: the first of the 32 lines between knots that does not end before t
unfoldable pub line_at : ℕ → ℕ → ℕ
line_at Tp t = scan (λ i. ltb (time (i + 1) * Tp) t) 32 0

-- the straight line through (a, y0) and (b, y1) at t is the exact fraction top / (b - a); 1000 times it, down (a <= t <= b and a < b: `weight_on_lem`, `line_ok`)
abbrev pub top : ℕ → ℕ → ℕ → ℕ → ℕ → ℕ
top t a b y0 y1 = y0 * (b - t) + y1 * (t - a)

unfoldable pub on_line : ℕ → ℕ → ℕ → ℕ → ℕ → ℕ
on_line t a b y0 y1 = 1000 * top t a b y0 y1 / (b - a)

-- on line i of the shape
abbrev pub weight_on : ℕ → ℕ → ℕ → ℕ
weight_on Tp t i = on_line t (time i * Tp) (time (i + 1) * Tp) (ratio i) (ratio (i + 1))

-- weight j, at time j D
unfoldable pub weight : ℕ → ℕ → ℕ → ℕ
weight Tp D j = weight_on Tp (10 * (j * D)) (line_at Tp (10 * (j * D)))

-- the weights from place 0 on
abbrev pub weight_at : ℕ → ℕ → ℕ → ℕ
weight_at Tp D i = weight Tp D (i + 1)

-- the number of weights: j from 1 while j D <= 5 Tp
abbrev pub weights : ℕ → ℕ → ℕ
weights Tp D = 5 * Tp / D

-- W, the sum of weights
unfoldable pub total_weight : ℕ → ℕ → ℕ
total_weight Tp D = sum_to (weight_at Tp D) (weights Tp D)

-- c is the curve number in tenths (Q-5). Q at t, the runoff of rain entry t: 0 for t <= 0, the last from n on (length rain - 1 is exact: 3 leaves 2 entries at least, `run_ok` of checks)
unfoldable pub runoff_at : ℕ → List ℕ → ℕ → ℕ
runoff_at c rain zero = 0
runoff_at c rain (suc t) = depth c (get_or rain (min (suc t) (length rain - 1)) 0)

-- weight j times Q at k + 1 - j (stops at 0 on purpose: Q at t is 0 for t <= 0)
abbrev pub term : ℕ → ℕ → ℕ → List ℕ → ℕ → ℕ → ℕ
term c Tp D rain k j = weight Tp D j * runoff_at c rain (k + 1 - j)

-- the depth released through row k: the sum over j, divided by W, down
unfoldable pub depth_released : ℕ → ℕ → ℕ → List ℕ → ℕ → ℕ
depth_released c Tp D rain k = sum_from1 (term c Tp D rain k) (weights Tp D) / total_weight Tp D

-- the volume of a depth on an area: 363 times both, divided by 10,000, down
unfoldable pub volume_of : ℕ → ℕ → ℕ
volume_of A d = 363 * A * d / 10000

-- the volume released through row k
abbrev pub volume : ℕ → ℕ → ℕ → ℕ → List ℕ → ℕ → ℕ
volume c A Tp D rain k = volume_of A (depth_released c Tp D rain k)

-- a subarea's part of row k: that less the same at k - 1 (exact: `volume_rises`)
unfoldable pub part : ℕ → ℕ → ℕ → ℕ → List ℕ → ℕ → ℕ
part c A Tp D rain k = volume c A Tp D rain k - volume c A Tp D rain (k - 1)

-- refusal 9 of one subarea, as a test that passes: Tc is not above 36,000
unfoldable pub concentration_good : ℕ → Bool
concentration_good tc = leb tc most_time

-- refusal 10: D is not above Tp
unfoldable pub peak_good : ℕ → ℕ → Bool
peak_good D tc = leb D (time_to_peak D tc)

-- refusal 11: 5 Tp is not above 512 D
unfoldable pub weights_good : ℕ → ℕ → Bool
weights_good D tc = leb (5 * time_to_peak D tc) (most_weights * D)
