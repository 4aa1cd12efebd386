-- The double of a whole number below 2^53 is that number. Assumes nothing.
use mathlib.Core.Bool.{false}
use Prim.Native.Nat.{ℕ, ◌^◌, ◌≤◌}
use native.Mathlib.Omega.{arith}
use lib.Dec.{T, le→leb}
use lib.IntN.{pos}
use lib.Ieee.{binary64, of_int, in_float}
use lib.Ieee.Exact.{HasValue}
use lib.Ieee.Back.{round_whole, unsigned_back}
use Rattle.marks.specs.ChartMarks.{double_of, IsWhole}
use Rattle.marks.specs.Needs.{most_exact}

module _ (n : ℕ) (h : n ≤ most_exact) where
  -- the cast to a double loses nothing
  pub exact : T (in_float binary64 (pos n))
  unfolding in_float
  exact = le→leb n (2 ^ 53) (omega arith)

  value_of : HasValue (double_of n) false n 1
  unfolding of_int
  value_of = round_whole binary64 false n (omega arith)

  pub double_whole : IsWhole (double_of n) n
  double_whole =
      let r = unsigned_back binary64 64 n exact (omega arith) in
      record { small = omega arith; value = value_of; fits = r.0; back = r.1 }
