-- Lists of rows: of a function's values, and with a function's values added.
use Rattle.std.specs.Prelude.{List, [], ◌∷◌, ℕ, zero, suc, ◌+◌}

-- f k, f (k + 1), .. : n of them
unfoldable pub rows_from : (ℕ → ℕ) → ℕ → ℕ → List ℕ
rows_from f k zero = []
rows_from f k (suc n) = f k ∷ rows_from f (k + 1) n

-- a list of rows from row k on, each with f of its row added
unfoldable pub plus : (ℕ → ℕ) → ℕ → List ℕ → List ℕ
plus f k [] = []
plus f k (v ∷ vs) = (v + f k) ∷ plus f (k + 1) vs
