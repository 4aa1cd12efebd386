-- The first bad place, for any test.
use Rattle.std.specs.Prelude.{Bool, ℕ, zero, suc, ◌+◌}
use Rattle.laws.specs.Pick.{pick}

-- the first of n places from i on that is not good, or the place after them
unfoldable pub scan : (ℕ → Bool) → ℕ → ℕ → ℕ
scan good zero i = i
scan good (suc n) i = pick (good i) (scan good n (i + 1)) i
