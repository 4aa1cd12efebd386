-- A number within its limits, as a test.
use Rattle.std.specs.Prelude.{Bool, ◌&&◌, ℕ, leb}

-- x is from least to most
abbrev pub within : ℕ → ℕ → ℕ → Bool
within least x most = leb least x && leb x most
