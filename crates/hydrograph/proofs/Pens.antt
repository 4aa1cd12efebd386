-- The pen: a step along a line, the carry, and the weight it gives. Assumes nothing.
use mathlib.Core.Path.{◌≡◌, sym, ap, ◌∙◌}
use Prim.Native.Nat.{ℕ, ◌+◌, ◌-◌, ◌*◌, ◌/◌, ◌%◌, ◌≤◌, ◌<◌}
use native.Mathlib.Nat.{mul-sub, mul-le-mul, mul-le-mul_left, mod-lt, div-add-mod', div-le_self, div-eq_of_lt-le, lt_of_mul-lt-mul_right, le_trans}
use native.Mathlib.Omega.{arith}
use Rattle.laws.specs.Limits.{most_step}
use Rattle.hydrograph.specs.InflowRows.{time, ratio, line_at, top, on_line, weight_on, weight}
use Rattle.hydrograph.specs.Needs.{LineOk, TimingOk, PaceOk, PenOk, PenReady, length_on, value_on}
use Rattle.hydrograph.specs.declared.Pace.{Pace}
use Rattle.hydrograph.specs.declared.Pen.{Pen}
use Rattle.hydrograph.proofs.Lines.{OnLine, on_line_lem, on_line_most, line_ok, line_rises, line_stays}
use Rattle.hydrograph.proofs.Weights.{peak_some, peak_most}

-- a step of s along a line takes s times the ratio at one end away, and gives s times that at the other
pub top_step : (t s a b y0 y1 : ℕ) → a ≤ t → t + s ≤ b → top (t + s) a b y0 y1 + s * y0 ≡ top t a b y0 y1 + s * y1
top_step t s a b y0 y1 l h =
    let from : b - t ≡ b - (t + s) + s = omega arith in
    let to : t + s - a ≡ t - a + s = omega arith in
    rw (from, to) (split (b - (t + s)) (t - a))
  where
    split : (p q : ℕ) → y0 * p + y1 * (q + s) + s * y0 ≡ y0 * (p + s) + y1 * q + s * y1
    split p q = omega arith

-- what leaves a remainder below the divisor is the quotient
pub quotient : (q d r n : ℕ) → q * d + r ≡ n → r < d → n / d ≡ q
quotient q d r n e l = div-eq_of_lt-le d (omega arith) (omega arith)

-- a value of w lengths and a rest, changed by a pace: as many lengths and as much rest more
pub added : (w r u m d n v next x y : ℕ) → w * n + r ≡ v → u * n + m + x ≡ d * n + y → next + x ≡ v + y → (w + u) * n + (r + m) ≡ next + d * n
added w r u m d n v next x y e f g = omega arith

-- d lengths are taken from q lengths and a rest below one: there are as many
pub lengths_stand : (q d n r v : ℕ) → q * n + r ≡ v + d * n → r < n → d ≤ q
lengths_stand q d n r v e l =
    let below : d * n < (q + 1) * n = omega arith in
    omega (arith, lt_of_mul-lt-mul_right n below)

-- and the rest stays
pub rest_stays : (q d n r v : ℕ) → q * n + r ≡ v + d * n → d ≤ q → (q - d) * n + r ≡ v
rest_stays q d n r v e l = go (q - d) (omega arith)
  where
    go : (k : ℕ) → q ≡ k + d → k * n + r ≡ v
    go k f = omega (arith, ap (λ (z : ℕ). z * n) f)

-- a change up to the largest step times the largest ratio
pub change_most : (D y : ℕ) → D ≤ most_step → y ≤ 1000 → 10000 * D * y ≤ 36000000000
change_most D y few low = mul-le-mul {n₂ = 36000000} {m₂ = 1000} (omega arith) low

module _ (left n D y0 y1 : ℕ) (some : 0 < n) where
  -- the pace of a line that rises: its change's quotient and remainder
  pub pace_rises : D ≤ most_step → y0 ≤ y1 → y1 ≤ 1000 → PaceOk left n D y0 y1 (record { up = 10000 * D * (y1 - y0) / n; down = 0; more = 10000 * D * (y1 - y0) % n })
  pace_rises few l low =
      let change = 10000 * D * (y1 - y0) in
      record {
        step = λ h. omega (arith, div-add-mod' change n, mul-sub (10000 * D) y1 y0, mul-le-mul_left (10000 * D) l);
        more_most = omega (arith, mod-lt change some);
        up_most = le_trans (div-le_self change n) (change_most D (y1 - y0) few (omega arith));
      }

  -- and of one that falls: a length more is taken, and what that is too much is given back
  pub pace_falls : y1 ≤ y0 → PaceOk left n D y0 y1 (record { up = 0; down = 10000 * D * (y0 - y1) / n + 1; more = n - 10000 * D * (y0 - y1) % n })
  pace_falls l =
      let change = 10000 * D * (y0 - y1) in
      record {
        step = λ h. omega (arith, div-add-mod' change n, mod-lt change some, mul-sub (10000 * D) y0 y1, mul-le-mul_left (10000 * D) l);
        more_most = omega arith;
        up_most = omega arith;
      }

-- a pen set down at t, from the numbers of its line
pub pen_starts : (Tp D t i a b y0 y1 : ℕ) (pace : Pace) → t ≤ 50 * Tp → i ≡ line_at Tp t → a < b
    → a ≡ time i * Tp → b ≡ time (i + 1) * Tp → y0 ≡ ratio i → y1 ≡ ratio (i + 1) → PaceOk (b - t) (b - a) D y0 y1 pace
    → PenOk Tp D (record { time = t; end = b; line = i; weight = 1000 * top t a b y0 y1 / (b - a); rest = 1000 * top t a b y0 y1 % (b - a); length = b - a; pace = pace })
pen_starts Tp D t i a b y0 y1 pace early on apart ea eb e0 e1 ok =
    record {
      early = early;
      at_line = on;
      at_end = eb;
      at_length = rw (ea, eb);
      value = div-add-mod' (1000 * top t a b y0 y1) (b - a) ∙ rw (ea, eb, e0, e1);
      less = mod-lt (1000 * top t a b y0 y1) (omega arith);
      pace_ok = rw (e0, e1) at ok;
    }

module _ (Tp D : ℕ) (pen : Pen) (ok : PenOk Tp D pen) where
  -- one that is set down can go on
  pub pen_ready : PenReady Tp D pen
  pen_ready = record { on = λ h. ok; past = omega (arith, ok.at_line, line_rises Tp pen.time (pen.time + 10 * D) (omega arith)) }

  -- the pen's time lies on its line
  pub pen_on : OnLine Tp pen.time pen.line
  pen_on = rw ok.at_line (on_line_lem Tp pen.time ok.early)

  -- its weight is the line's value there
  pub pen_value : weight_on Tp pen.time pen.line ≡ pen.weight
  unfolding on_line
  pen_value =
      quotient pen.weight (length_on Tp pen.line) pen.rest (value_on Tp pen.time pen.line) (rw (← ok.at_length) ok.value) (omega (arith, ok.less, ok.at_length))

  -- and weight j at the time of that
  pub pen_weight : (j : ℕ) → pen.time ≡ 10 * (j * D) → pen.weight ≡ weight Tp D j
  unfolding weight
  pen_weight j e = sym pen_value ∙ ap (weight_on Tp pen.time) ok.at_line ∙ ap (λ (t : ℕ). weight_on Tp t (line_at Tp t)) e

  module _ (timing : TimingOk D Tp) where
    pen_ok : LineOk pen.time (time pen.line * Tp) (time (pen.line + 1) * Tp) (ratio pen.line) (ratio (pen.line + 1))
    pen_ok = line_ok Tp pen.time pen.line (peak_some D Tp timing) (peak_most D Tp timing) pen_on

    -- no weight is above 1,000,000, and no line longer than all
    pub pen_most : pen.weight ≤ 1000000
    pen_most =
        let i = pen.line in
        rw (← pen_value) (on_line_most pen.time (time i * Tp) (time (i + 1) * Tp) (ratio i) (ratio (i + 1)) pen_ok)

    pub pen_short : pen.length ≤ 20000000
    pen_short = omega (arith, ok.at_length, pen_ok.wide)

  -- a step along the line changes its value by the ratios at its ends
  pub value_step : pen.time + 10 * D ≤ pen.end
      → value_on Tp (pen.time + 10 * D) pen.line + 10000 * D * ratio pen.line ≡ value_on Tp pen.time pen.line + 10000 * D * ratio (pen.line + 1)
  value_step h =
      let i = pen.line in
      scaled _ _ (ratio i) (ratio (i + 1))
      (top_step pen.time (10 * D) (time i * Tp) (time (i + 1) * Tp) (ratio i) (ratio (i + 1)) pen_on.low (omega (arith, ok.at_end)))
    where
      scaled : (p q x y : ℕ) → p + 10 * D * x ≡ q + 10 * D * y → 1000 * p + 10000 * D * x ≡ 1000 * q + 10000 * D * y
      scaled p q x y e = omega arith

-- weight and rest a step on, before what the pace takes is taken
pub record Carried (Tp D : ℕ) (pen : Pen) (weight rest : ℕ) : Type 0 where
  pub sum : weight * pen.length + rest ≡ value_on Tp (pen.time + 10 * D) pen.line + pen.pace.down * pen.length
  pub less : rest < pen.length

module _ (Tp D : ℕ) (pen : Pen) (ok : PenOk Tp D pen) (stays : pen.time + 10 * D ≤ pen.end) where
  all_added : (pen.weight + pen.pace.up) * pen.length + (pen.rest + pen.pace.more) ≡ value_on Tp (pen.time + 10 * D) pen.line + pen.pace.down * pen.length
  all_added =
      added pen.weight pen.rest pen.pace.up pen.pace.more pen.pace.down pen.length _ _ _ _ ok.value (ok.pace_ok.step (omega arith)) (value_step Tp D pen ok stays)

  -- a rest that is below the length still
  pub no_carry : pen.rest + pen.pace.more < pen.length → Carried Tp D pen (pen.weight + pen.pace.up) (pen.rest + pen.pace.more)
  no_carry l = record { sum = all_added; less = l }

  -- the carry: a length of the rest is one of the weight
  pub carry : pen.length ≤ pen.rest + pen.pace.more → Carried Tp D pen (pen.weight + pen.pace.up + 1) (pen.rest + pen.pace.more - pen.length)
  carry l =
      record {
        sum = moved (pen.weight + pen.pace.up) (pen.rest + pen.pace.more) pen.length _ l all_added;
        less = omega (arith, ok.less, ok.pace_ok.more_most);
      }
    where
      moved : (q r n v : ℕ) → n ≤ r → q * n + r ≡ v → (q + 1) * n + (r - n) ≡ v
      moved q r n v l e = omega arith

  module _ {weight rest : ℕ} (so : Carried Tp D pen weight rest) where
    -- what the pace takes is there
    pub down_stands : pen.pace.down ≤ weight
    down_stands = lengths_stand weight pen.pace.down pen.length rest _ so.sum so.less

    -- the pen a step on
    pub pen_moves : pen.time + 10 * D ≤ 50 * Tp
        → PenOk Tp D (record { time = pen.time + 10 * D; end = pen.end; line = pen.line; weight = weight - pen.pace.down; rest = rest; length = pen.length; pace = pen.pace })
    pen_moves early =
        record {
          early = early;
          at_line = line_stays Tp pen.time (pen.time + 10 * D) pen.line ok.at_line (omega arith) (omega (arith, ok.at_end));
          at_end = ok.at_end;
          at_length = ok.at_length;
          value = rest_stays weight pen.pace.down pen.length rest _ so.sum down_stands;
          less = so.less;
          pace_ok = record { step = λ h. ok.pace_ok.step (omega arith); more_most = ok.pace_ok.more_most; up_most = ok.pace_ok.up_most };
        }
