-- A list that holds the values of a function from its front on.
use Rattle.std.specs.Prelude.{◌≡◌, List, ℕ, ◌<◌, get_or}

-- the first n numbers are f 0 to f (n - 1)
pub record Filled (f : ℕ → ℕ) (n : ℕ) (l : List ℕ) : Type 0 where
  pub each : (i : ℕ) → i < n → get_or l i 0 ≡ f i
