-- docs/SCOPE.md, refusal 16 of an edit: inflow rows held against the old record's parts.
use Rattle.std.specs.Prelude.{Bool, ◌&&◌, List, ℕ, ◌+◌, length, leb}
use Rattle.laws.specs.Scan.{scan}
use Rattle.laws.specs.Limits.{most_inflow}
use Rattle.rows.specs.Figures.{at}

-- 16: an inflow row v is not below the old part f, and not above 217,800,000,000
unfoldable pub inflow_fits : ℕ → ℕ → Bool
inflow_fits f v = leb f v && leb v most_inflow

-- the first row, from 0, that fails it, or their number; f is the old record's part of a row
abbrev pub first_unfit : (ℕ → ℕ) → List ℕ → ℕ
first_unfit f vs = scan (λ i. inflow_fits (f (i + 1)) (at vs i)) (length vs) 0
