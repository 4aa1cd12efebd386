-- The literal 0.0 of a mark's answer. Assumes nothing.
use mathlib.Core.Path.{◌≡◌, refl}
use lib.Ieee.{binary64, of_int, of_bits, of_fields, round, size, units, odd, span, climb}
use Rattle.marks.specs.ChartMarks.{double_of}

-- the literal 0.0 is the double of 0
pub zero_double : of_bits binary64 0 ≡ double_of 0
unfolding of_bits of_fields of_int round size units odd span climb
zero_double = refl
