-- The straight line in whole numbers: laws that name no pond. Assumes nothing.
use mathlib.Core.Path.{◌≡◌}
use Prim.Native.Nat.{ℕ, ◌+◌, ◌-◌, ◌*◌, ◌/◌, ◌≤◌, ◌<◌}
use native.Mathlib.Nat.{mul-le-mul_left, mul-le-mul_right, div-mul-le_self, le_of_mul-le-mul_right}
use native.Mathlib.Omega.{arith}
use Rattle.laws.proofs.Num.{part_le, div_cross}
use Rattle.pond.specs.PondRows.{between}

-- the line is no lower than its lower end
pub between_least : (x x0 x1 y0 y1 : ℕ) → y0 ≤ between x x0 x1 y0 y1
unfolding between
between_least x x0 x1 y0 y1 = omega arith

-- and no higher than its upper end
pub between_most : (x x0 x1 y0 y1 : ℕ) → x ≤ x1 → y0 ≤ y1 → between x x0 x1 y0 y1 ≤ y1
unfolding between
between_most x x0 x1 y0 y1 hx hy = omega (arith, part_le (x - x0) (x1 - x0) (y1 - y0) (omega arith))

-- it never falls
pub between_up : (x z x0 x1 y0 y1 : ℕ) → x ≤ z → x0 < x1 → between x x0 x1 y0 y1 ≤ between z x0 x1 y0 y1
unfolding between
between_up x z x0 x1 y0 y1 l apart =
    let a = x - x0 in
    let b = z - x0 in
    let d = y1 - y0 in
    let w = x1 - x0 in
    omega (arith, div_cross (a * d) w (b * d) w (omega arith) (omega arith) (mul-le-mul_right w (mul-le-mul_right {m = a} {n = b} d (omega arith))))

-- q the part of the rise d that is a of a + b, down. `omega` multiplies out; the products of inequalities are handed to it
weigh : (k y0 d x0 a b q : ℕ) → 0 < a + b → q * (a + b) ≤ a * d → k * y0 ≤ x0 → k * (y0 + d) ≤ x0 + (a + b) → k * (y0 + q) ≤ x0 + a
weigh k y0 d x0 a b q pos hq h0 h1 =
    le_of_mul-le-mul_right {k = a + b} (omega (arith, mul-le-mul_left k hq, mul-le-mul_left a h1, mul-le-mul_right b h0)) pos

-- k times the line is at most x, where it is at both ends
pub under_line : (k x x0 x1 y0 y1 : ℕ) → x0 ≤ x → x ≤ x1 → x0 < x1 → y0 ≤ y1 → k * y0 ≤ x0 → k * y1 ≤ x1
    → k * between x x0 x1 y0 y1 ≤ x
unfolding between
under_line k x x0 x1 y0 y1 lo hi apart up h0 h1 =
    let whole : (x - x0) + (x1 - x) ≡ x1 - x0 = omega arith in
    let rise : y0 + (y1 - y0) ≡ y1 = omega arith in
    omega (
      arith,
      weigh k y0 (y1 - y0) x0 (x - x0) (x1 - x) ((x - x0) * (y1 - y0) / (x1 - x0))
          (omega arith) (rw whole (div-mul-le_self ((x - x0) * (y1 - y0)) (x1 - x0))) h0 (rw rise (omega arith)),
    )
