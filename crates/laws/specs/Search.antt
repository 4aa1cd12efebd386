-- The first bad place of several, for any test.
use Rattle.std.specs.Prelude.{Bool, ℕ, Option, not, position}
use Rattle.std.specs.List.{range_with_len}

-- the first of the places 0 to n - 1 that is not good
abbrev pub first_bad_of : (ℕ → Bool) → ℕ → Option ℕ
first_bad_of good n = position (λ i. not (good i)) (range_with_len 0 n)
