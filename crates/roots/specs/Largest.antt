-- Whole roots: the largest whole number that passes a test, and the test over powers. No word of hydrology is here.
use Rattle.std.specs.Prelude.{Bool, ℕ, zero, suc, ◌*◌, ◌^◌, leb}
use Rattle.laws.specs.Pick.{pick}

-- the largest whole number up to n that passes the test, 0 where none does
unfoldable pub largest : (ℕ → Bool) → ℕ → ℕ
largest passes zero = 0
largest passes (suc n) = pick (passes (suc n)) (suc n) (largest passes n)

-- the power a of T, times c, is at most d
abbrev pub powers : ℕ → ℕ → ℕ → ℕ → Bool
powers a c d T = leb (T ^ a * c) d

-- a square root has 15 bits here, a root of any other power 23: no larger number is tried
abbrev pub most_square : ℕ
most_square = 32767

abbrev pub most_power : ℕ
most_power = 8388607
