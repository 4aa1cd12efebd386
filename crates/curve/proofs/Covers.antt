-- `class_of` at each of its ranges. Assumes nothing.
use mathlib.Core.Path.{◌≡◌}
use Prim.Native.Nat.{ℕ, ◌≤◌, ◌<◌}
use native.Mathlib.Omega.{arith}
use borrow.Author.Tests.{le-leb, lt-leb}
use Rattle.curve.specs.CurveNumbers.{class_of}

module _ (c : ℕ) where
  -- below the first code
  pub is_none : c < 1 → 0 ≡ class_of c
  unfolding class_of
  is_none h = simp (le-leb c 0 (omega arith))

  pub is_surface : 1 ≤ c → c < 9 → 1 ≡ class_of c
  unfolding class_of
  is_surface h k = simp (lt-leb c 0 (omega arith), le-leb c 8 (omega arith))

  pub is_district : 9 ≤ c → c < 11 → 2 ≡ class_of c
  unfolding class_of
  is_district h k = simp (lt-leb c 0 (omega arith), lt-leb c 8 (omega arith), le-leb c 10 (omega arith))

  pub is_lot : 11 ≤ c → c < 17 → 3 ≡ class_of c
  unfolding class_of
  is_lot h k = simp (lt-leb c 0 (omega arith), lt-leb c 8 (omega arith), lt-leb c 10 (omega arith), le-leb c 16 (omega arith))

  pub is_rural : 17 ≤ c → c < 23 → 4 ≡ class_of c
  unfolding class_of
  is_rural h k =
      simp (lt-leb c 0 (omega arith), lt-leb c 8 (omega arith), lt-leb c 10 (omega arith), lt-leb c 16 (omega arith), le-leb c 22 (omega arith))

  -- above the last code
  pub is_past : 23 ≤ c → 0 ≡ class_of c
  unfolding class_of
  is_past h =
      simp (lt-leb c 0 (omega arith), lt-leb c 8 (omega arith), lt-leb c 10 (omega arith), lt-leb c 16 (omega arith), lt-leb c 22 (omega arith))
