-- Document 01, 'Runoff depth', and Q-5: the runoff of a cumulative rain on a curve number in tenths.
use Rattle.std.specs.Prelude.{Bool, ℕ, ◌+◌, ◌-◌, ◌*◌, ◌/◌, leb}
use Rattle.laws.specs.Pick.{pick}

-- N is not above 0
abbrev pub no_runoff : ℕ → ℕ → Bool
no_runoff c p = leb (c * p + 2000 * c) 2000000

-- (Q-5) over tenths c: N = c p + 2000 c - 2000000, read only where it is above 0 (`depth_some`, `depth_none`)
abbrev pub N : ℕ → ℕ → ℕ
N c p = c * p + 2000 * c - 2000000

-- (Q-5) M = c p + 8000000 - 8000 c (exact: c is at most 980, `composite_ok` of curve)
abbrev pub M : ℕ → ℕ → ℕ
M c p = c * p + 8000000 - 8000 * c

-- 0 if N <= 0, otherwise 1000 N^2 / (c M), down, in millionths of an inch
unfoldable pub depth : ℕ → ℕ → ℕ
depth c p = pick (no_runoff c p) 0 (1000 * (N c p * N c p) / (c * M c p))

-- document 01's own formula, over a whole curve number C; no rule since Q-5, and what `depth` at 10 C is (`tenths_whole`)
abbrev pub whole_n : ℕ → ℕ → ℕ
whole_n C p = C * p + 2000 * C - 200000

abbrev pub whole_m : ℕ → ℕ → ℕ
whole_m C p = C * p + 800000 - 8000 * C

unfoldable pub whole_depth : ℕ → ℕ → ℕ
whole_depth C p = pick (leb (C * p + 2000 * C) 200000) 0 (1000 * (whole_n C p * whole_n C p) / (C * whole_m C p))
