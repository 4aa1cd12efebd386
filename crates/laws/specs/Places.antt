-- Places in a text.
use Rattle.std.specs.Prelude.{List, ℕ, ◌≤◌, length}

-- e is a place of s, its end included, and not before a
pub record Within (a e : ℕ) (s : List ℕ) : Type 0 where
  pub low : a ≤ e
  pub high : e ≤ length s
