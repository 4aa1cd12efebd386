-- What contracts ask of the rain, the step and Tp, and proofs use; no rule of document 01 is here.
use Rattle.std.specs.Prelude.{◌≡◌, List, ℕ, ◌+◌, ◌-◌, ◌*◌, ◌≤◌, ◌<◌, length, get_or, ltb}
use Rattle.laws.specs.Pick.{pick}
use Rattle.laws.specs.Limits.{most_rows, least_step, most_step, most_rain, most_weights}
use Rattle.hydrograph.specs.InflowRows.{time, ratio, line_at, top, weight_at, weights}
use Rattle.hydrograph.specs.declared.Pace.{Pace}
use Rattle.hydrograph.specs.declared.Pen.{Pen}

-- weights that are worked out and laid at once
abbrev pub hand : ℕ
hand = 8

-- the weights from place 0 on, and 0 past the last
unfoldable pub weighed : ℕ → ℕ → ℕ → ℕ
weighed Tp D g = pick (ltb g (weights Tp D)) (weight_at Tp D g) 0

-- number i of one list times the number of another that stands as many places before k
abbrev pub product : List ℕ → List ℕ → ℕ → ℕ → ℕ
product w q k i = get_or w i 0 * get_or q (k - i) 0

-- no runoff depth is above this, in millionths of an inch
abbrev pub most_depth : ℕ
most_depth = 30000000

-- what a line is asked at
pub record LineOk (t a b y0 y1 : ℕ) : Type 0 where
  pub low : a ≤ t
  pub high : t ≤ b
  pub apart : a < b
  pub wide : b ≤ 20000000
  pub from_most : y0 ≤ 1000
  pub to_most : y1 ≤ 1000

-- a step within its limits and a Tp that passes 10 and 11
pub record TimingOk (D Tp : ℕ) : Type 0 where
  pub step_least : least_step ≤ D
  pub step_most : D ≤ most_step
  pub coarse : D ≤ Tp
  pub short : 5 * Tp ≤ most_weights * D

-- what 3 leaves of a rain: entry 0 is 0, none falls, none is above the most (no row needs what 19 leaves)
pub record RainOk (rain : List ℕ) : Type 0 where
  pub least : 2 ≤ length rain
  pub first : get_or rain 0 0 ≡ 0
  pub rising : (i : ℕ) → i + 1 < length rain → get_or rain i 0 ≤ get_or rain (i + 1) 0
  pub limit : (i : ℕ) → i < length rain → get_or rain i 0 ≤ most_rain

-- the first n numbers of a list are at most m
pub record Below (l : List ℕ) (n m : ℕ) : Type 0 where
  pub each : (i : ℕ) → i < n → get_or l i 0 ≤ m

-- rows that have room for a part each
pub record RoomOk (rows : List ℕ) : Type 0 where
  pub most : length rows ≤ most_rows
  pub room : (i : ℕ) → i < length rows → get_or rows i 0 ≤ 1000000000000000000

-- the length of line i of the shape, and 1000 times its value at t times that length
abbrev pub length_on : ℕ → ℕ → ℕ
length_on Tp i = time (i + 1) * Tp - time i * Tp

abbrev pub value_on : ℕ → ℕ → ℕ → ℕ
value_on Tp t i = 1000 * top t (time i * Tp) (time (i + 1) * Tp) (ratio i) (ratio (i + 1))

-- what a step changes on a line from y0 to y1, told with no sign; nothing is asked where less than a step is left of the line
pub record PaceOk (left length D y0 y1 : ℕ) (pace : Pace) : Type 0 where
  pub step : 10 * D ≤ left → pace.up * length + pace.more + 10000 * D * y0 ≡ pace.down * length + 10000 * D * y1
  pub more_most : pace.more ≤ length
  pub up_most : pace.up ≤ 36000000000

-- a pen: its line is the one on which its time lies; weight and rest are quotient and remainder of the line's value there
pub record PenOk (Tp D : ℕ) (pen : Pen) : Type 0 where
  pub early : pen.time ≤ 50 * Tp
  pub at_line : pen.line ≡ line_at Tp pen.time
  pub at_end : pen.end ≡ time (pen.line + 1) * Tp
  pub at_length : pen.length ≡ length_on Tp pen.line
  pub value : pen.weight * pen.length + pen.rest ≡ value_on Tp pen.time pen.line
  pub less : pen.rest < pen.length
  pub pace_ok : PaceOk (pen.end - pen.time) pen.length D (ratio pen.line) (ratio (pen.line + 1)) pen.pace

-- a pen whose next step can be taken: where that step stays on its line it is a pen as above, and else its line is at or before the one that the step leads to
pub record PenReady (Tp D : ℕ) (pen : Pen) : Type 0 where
  pub on : pen.time + 10 * D ≤ pen.end → PenOk Tp D pen
  pub past : pen.line ≤ line_at Tp (pen.time + 10 * D)
