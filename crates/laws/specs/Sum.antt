-- A sum over an index.
use Rattle.std.specs.Prelude.{ℕ, zero, suc, ◌+◌}

-- f 0 + .. + f (n - 1)
unfoldable pub sum_to : (ℕ → ℕ) → ℕ → ℕ
sum_to f zero = 0
sum_to f (suc n) = sum_to f n + f n

-- f 1 + .. + f n
abbrev pub sum_from1 : (ℕ → ℕ) → ℕ → ℕ
sum_from1 f n = sum_to (λ i. f (i + 1)) n
