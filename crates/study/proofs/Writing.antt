-- Rows written from the first on: nothing that stands in the lists before counts. Assumes nothing.
use mathlib.Core.Path.{◌≡◌, refl}
use mathlib.Core.List.{List, ◌++◌, map}
use Prim.Native.Nat.{ℕ, ◌-◌}
use native.Mathlib.Omega.{arith}
use lib.ListN.{length, take, drop}
use Rattle.std.specs.Prelude.{None}
use Rattle.pond.specs.PondRows.{empty}
use Rattle.pond.specs.declared.State.{State}
use Rattle.rows.specs.Routing.{states, passed, over_row, state_before}
use Rattle.rows.specs.Needs.{RowsBefore}
use Rattle.rows.proofs.Told.{over_none}

module _ (h : ℕ) (p os ss : List ℕ) where
  -- there is no row before the first
  pub none_before : RowsBefore h p os ss 0
  none_before = record { each = λ i l. absurd (omega arith) }

  -- rows of which none goes over pass, from the first on
  pub first_passes : (vs : List ℕ) → over_row h p empty vs ≡ None → passed h p (state_before os ss 0) (drop 0 vs) ≡ length vs - 0
  unfolding state_before
  first_passes vs e = omega (arith, over_none h p empty vs e)

  -- what is written from the first on is the whole column
  pub first_written : (f : State → ℕ) (vs : List ℕ) → take 0 os ++ map f (states h p (state_before os ss 0) (drop 0 vs)) ≡ map f (states h p empty vs)
  unfolding state_before
  first_written f vs = refl
