-- The lines of the shape: its table's rules, each by one computed test, and where a time lies. Assumes nothing.
use mathlib.Core.Path.{◌≡◌, refl, sym, ap, ◌∙◌}
use mathlib.Core.Bool.{Bool}
use mathlib.Core.Logic.{⊎_elim}
use Prim.Native.Nat.{ℕ, ◌+◌, ◌-◌, ◌*◌, ◌≤◌, ◌<◌, min}
use native.Mathlib.Nat.{eq-zero-or-pos, eq-or-lt_of_le, mul-le-mul, mul-le-mul_left, mul-le-mul_right, div-le_of_le-mul, le-div_iff_mul-le, mul-sub}
use native.Mathlib.Omega.{arith}
use borrow.Author.Tests.{leb-true, le-leb, lt-leb, eqb-true, ltb-true, ltb-false}
use lib.Dec.{leb, ltb, eqb}
use mir.Val.{Fits}
use mir.Syntax.{w64}
use Rattle.laws.specs.Pick.{pick}
use Rattle.laws.specs.Scan.{scan}
use Rattle.laws.proofs.Num.{below_or_not, mul_fits}
use Rattle.laws.proofs.Scans.{scan_all, scan_bad, scan_before, scan_most}
use Rattle.hydrograph.specs.InflowRows.{time, ratio, line_at, on_line, weights}
use Rattle.hydrograph.specs.Needs.{LineOk, hand}

-- a knot's time is above the one before
abbrev rises : ℕ → Bool
rises i = ltb (time i) (time (i + 1))

all_rise : scan rises 32 0 ≡ 32
unfolding scan time
all_rise = refl

all_low : scan (λ i. leb (ratio i) 1000) 33 0 ≡ 33
unfolding scan ratio
all_low = refl

-- the ratios of knots 1 to 10 are 30 or more
all_high : scan (λ i. leb 30 (ratio (i + 1))) 10 0 ≡ 10
unfolding scan ratio
all_high = refl

pub time_up : (i : ℕ) → i < 32 → time i < time (i + 1)
time_up i l = ltb-true (time i) (time (i + 1)) (scan_all rises 32 0 all_rise i (omega arith) (omega arith))

pub ratio_most : (i : ℕ) → i < 33 → ratio i ≤ 1000
ratio_most i l = leb-true (ratio i) 1000 (scan_all (λ i. leb (ratio i) 1000) 33 0 all_low i (omega arith) (omega arith))

pub ratio_least : (i : ℕ) → i < 10 → 30 ≤ ratio (i + 1)
ratio_least i l = leb-true 30 (ratio (i + 1)) (scan_all (λ i. leb 30 (ratio (i + 1))) 10 0 all_high i (omega arith) (omega arith))

all_within : scan (λ i. leb (time i) 50) 33 0 ≡ 33
unfolding scan time
all_within = refl

pub time_most : (i : ℕ) → i < 33 → time i ≤ 50
time_most i l = leb-true (time i) 50 (scan_all (λ i. leb (time i) 50) 33 0 all_within i (omega arith) (omega arith))

-- so that no product of one and a Tp wraps
pub knot_fits : {a Tp : ℕ} → a ≤ 50 → Tp ≤ 400000 → Fits w64 (a * Tp)
knot_fits l m = mul_fits 50 400000 l m tt

-- knots stand 1 apart to 20, 2 apart to 40, then 5
abbrev spaced : ℕ → ℕ
spaced i = pick (leb i 20) i (pick (leb i 30) (2 * i - 20) (5 * i - 110))

all_spaced : scan (λ i. eqb (time i) (spaced i)) 33 0 ≡ 33
unfolding scan time
all_spaced = refl

time_spaced : (i : ℕ) → i < 33 → time i ≡ spaced i
time_spaced i l = eqb-true (time i) (spaced i) (scan_all (λ i. eqb (time i) (spaced i)) 33 0 all_spaced i (omega arith) (omega arith))

pub time_near_first : (i : ℕ) → i ≤ 20 → i ≡ time i
time_near_first i l = sym (time_spaced i (omega arith) ∙ rw (le-leb i 20 l))

pub time_further : (i : ℕ) → 20 < i → i ≤ 30 → 2 * i - 20 ≡ time i
time_further i a b = sym (time_spaced i (omega arith) ∙ rw (lt-leb i 20 a, le-leb i 30 b))

pub time_far : (i : ℕ) → 30 < i → i < 33 → 5 * i - 110 ≡ time i
time_far i a b = sym (time_spaced i b ∙ rw (lt-leb i 20 (omega arith), lt-leb i 30 a))

pub time_first : time 0 ≡ 0
unfolding time
time_first = refl

pub time_second : time 1 ≡ 1
unfolding time
time_second = refl

pub ratio_first : ratio 0 ≡ 0
unfolding ratio
ratio_first = refl

pub ratio_second : ratio 1 ≡ 30
unfolding ratio
ratio_second = refl

pub time_peak : time 10 ≡ 10
unfolding time
time_peak = refl

pub time_last : time 32 ≡ 50
unfolding time
time_last = refl

-- a time on line i
pub record OnLine (Tp t i : ℕ) : Type 0 where
  pub inside : i < 32
  pub low : time i * Tp ≤ t
  pub high : t ≤ time (i + 1) * Tp

module _ (Tp t : ℕ) where
  abbrev ended : ℕ → Bool
  ended i = ltb (time (i + 1) * Tp) t

  -- a line that ends at t or later is not passed
  pub line_within : (k : ℕ) → t ≤ time (k + 1) * Tp → line_at Tp t ≤ k
  unfolding line_at
  line_within k h =
      ⊎_elim (λ l. absurd (under (ltb-true (time (k + 1) * Tp) t (scan_before ended 32 0 k (omega arith) l)))) (λ l. l) (below_or_not k (scan ended 32 0))
    where
      under : time (k + 1) * Tp < t → ⊥
      under l = omega arith

  -- each time up to the last knot lies on its line
  pub on_line_lem : t ≤ 50 * Tp → OnLine Tp t (line_at Tp t)
  unfolding line_at
  on_line_lem h =
      let i = scan ended 32 0 in
      let last : t ≤ time (31 + 1) * Tp = omega (arith, ap (λ (z : ℕ). z * Tp) time_last) in
      let inside : i < 32 = omega (arith, line_within 31 last) in
      record {
        inside = inside;
        low = ⊎_elim (λ z. from_first i z) (λ p. from_before (i - 1) (omega arith)) (eq-zero-or-pos i);
        high = ltb-false (time (i + 1) * Tp) t (scan_bad ended 32 0 inside);
      }
    where
      from_first : (k : ℕ) → k ≡ 0 → time k * Tp ≤ t
      from_first k e = omega (arith, ap (λ (z : ℕ). time z * Tp) e, ap (λ (z : ℕ). z * Tp) time_first)

      from_before : (k : ℕ) → k + 1 ≡ scan ended 32 0 → time (scan ended 32 0) * Tp ≤ t
      from_before k e = rw (← e) (omega (arith, ltb-true (time (k + 1) * Tp) t (scan_before ended 32 0 k (omega arith) (omega arith))))

  -- a line that ends before t is passed
  pub line_passed : (k : ℕ) → t ≤ 50 * Tp → k ≤ line_at Tp t → time (k + 1) * Tp < t → k + 1 ≤ line_at Tp t
  line_passed k h l ends =
      ⊎_elim (λ (e : k ≡ line_at Tp t). absurd (here e)) (λ (w : k < line_at Tp t). omega arith) (eq-or-lt_of_le l)
    where
      here : k ≡ line_at Tp t → ⊥
      here e = omega (arith, (on_line_lem h).high, ap (λ (z : ℕ). time (z + 1) * Tp) e)

-- a later time lies on the same line or a later one, past the last knot too
pub line_rises : (Tp t u : ℕ) → t ≤ u → line_at Tp t ≤ line_at Tp u
unfolding line_at
line_rises Tp t u l =
    ⊎_elim (λ w. line_within Tp t (line_at Tp u) (omega (arith, ltb-false (time (line_at Tp u + 1) * Tp) u (scan_bad (ended Tp u) 32 0 w))))
    (λ w. omega (arith, w, scan_most (ended Tp t) 32 0))
    (below_or_not (line_at Tp u) 32)

-- the line of a hand's last weight is at or before that of the weight after the hand
pub line_next : (Tp D done : ℕ) → line_at Tp (10 * (min (done + hand) (weights Tp D) * D)) ≤ line_at Tp (10 * ((done + hand + 1) * D))
line_next Tp D done =
    line_rises Tp (10 * (min (done + hand) (weights Tp D) * D)) (10 * ((done + hand + 1) * D))
    (mul-le-mul_left 10 (mul-le-mul_right D (omega arith)))

-- on a line a later time up to its end lies on it too
pub line_stays : (Tp t u i : ℕ) → i ≡ line_at Tp t → t ≤ u → u ≤ time (i + 1) * Tp → i ≡ line_at Tp u
line_stays Tp t u i e l h = omega (arith, e, line_rises Tp t u l, line_within Tp u i h)

-- 1000 times a value is at most 1,000,000
pub on_line_most : (t a b y0 y1 : ℕ) → LineOk t a b y0 y1 → on_line t a b y0 y1 ≤ 1000000
unfolding on_line
on_line_most t a b y0 y1 ok =
    div-le_of_le-mul (b - a) (omega (arith, mul-le-mul_right (b - t) ok.from_most, mul-le-mul_right (t - a) ok.to_most))

-- what each end's ratio has in a value, so that no product of them wraps
pub from_side : {t a b y0 y1 : ℕ} → LineOk t a b y0 y1 → y0 * (b - t) ≤ 20000000000
from_side ok = mul-le-mul {m₂ = 20000000} ok.from_most (omega arith)

pub to_side : {t a b y0 y1 : ℕ} → LineOk t a b y0 y1 → y1 * (t - a) ≤ 20000000000
to_side ok = mul-le-mul {m₂ = 20000000} ok.to_most (omega arith)

-- and no less than 1000 times what both ends are no less than
pub on_line_least : (k t a b y0 y1 : ℕ) → LineOk t a b y0 y1 → k ≤ y0 → k ≤ y1 → 1000 * k ≤ on_line t a b y0 y1
unfolding on_line
on_line_least k t a b y0 y1 ok l m =
    (le-div_iff_mul-le {k = b - a} (omega arith)).1
    (omega (arith, mul-le-mul_right (b - t) l, mul-le-mul_right (t - a) m, mul-sub k b a, mul-sub k b t, mul-sub k t a))

-- what a time on line i of the shape asks
pub line_ok : (Tp t i : ℕ) → 0 < Tp → Tp ≤ 400000 → OnLine Tp t i → LineOk t (time i * Tp) (time (i + 1) * Tp) (ratio i) (ratio (i + 1))
line_ok Tp t i some most on =
    record {
      low = on.low;
      high = on.high;
      apart = omega (arith, mul-le-mul_right Tp (time_up i on.inside));
      wide = mul-le-mul (time_most (i + 1) (omega (arith, on.inside))) most;
      from_most = ratio_most i (omega (arith, on.inside));
      to_most = ratio_most (i + 1) (omega (arith, on.inside));
    }
