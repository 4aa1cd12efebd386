-- The pond step: the state it leaves is good, and no water is lost. Assumes nothing.
use mathlib.Core.Path.{◌≡◌}
use mathlib.Core.List.{List}
use Prim.Native.Nat.{ℕ, ◌+◌, ◌*◌, ◌≤◌}
use native.Mathlib.Omega.{arith}
use Rattle.pond.specs.declared.State.{State}
use Rattle.pond.specs.PondRows.{last_sum, discharge_at, empty, arrived, settled, next}
use Rattle.pond.specs.Needs.{PondOk, StateOk, ArriveOk}
use Rattle.pond.proofs.Sums.{last_most, discharge_held}

-- the empty pond is a good state
pub empty_ok : (h : ℕ) (p : List ℕ) → StateOk h p empty
empty_ok h p = record { covers = omega arith; within_last = omega arith }

module _ {h : ℕ} {p : List ℕ} (ok : PondOk h p) where
  module _ (x : ℕ) (top : x ≤ last_sum h p) where
    -- twice what half a step releases is at most x, as the code has it
    pub drawn : h * discharge_at h p x + h * discharge_at h p x ≤ x
    drawn = omega (arith, discharge_held ok x top)

    -- the storage at x with h times the outflow there is x
    pub settled_sum : (settled h p x).storage + h * (settled h p x).outflow ≡ x
    unfolding settled
    settled_sum = omega (arith, drawn)

    -- the state at x is good
    pub settled_ok : StateOk h p (settled h p x)
    unfolding settled
    settled_ok = record { covers = omega (arith, drawn); within_last = omega (arith, settled_sum) }

  -- a good state is one from which a row can be reached
  pub arrive_ok : {st : State} {v : ℕ} → StateOk h p st → v ≤ 1000000000000000000 → ArriveOk h st v
  arrive_ok so l = record { covers = so.covers; storage_most = omega (arith, last_most ok); inflow_most = l }

  -- what was held and came in is held or was released
  pub step_balance : (st : State) (v : ℕ) → StateOk h p st → arrived h st v ≤ last_sum h p
      → st.storage + v ≡ (next h p st v).storage + h * (st.outflow + (next h p st v).outflow)
  unfolding arrived settled
  step_balance st v so top = omega (arith, so.covers, drawn (arrived h st v) top)
