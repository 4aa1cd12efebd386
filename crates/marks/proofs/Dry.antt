-- The mark of a row without outflow. Assumes nothing.
use mathlib.Core.Path.{◌≡◌}
use mathlib.Core.List.{List}
use Prim.Native.Nat.{ℕ}
use borrow.Author.Tests.{eq-eqb}
use Rattle.marks.specs.declared.Mark.TheVariants.{Nothing}
use Rattle.marks.specs.ChartMarks.{mark_at}

-- there is none
pub mark_dry : (h : ℕ) (p : List ℕ) (peak k o s : ℕ) → o ≡ 0 → Nothing ≡ mark_at h p peak k o s
unfolding mark_at
mark_dry h p peak k o s e = rw (eq-eqb o 0 e)
