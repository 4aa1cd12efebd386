-- docs/SCOPE.md, 'Pond rows': the pond step at each row of a list of inflow volumes.
use Rattle.std.specs.Prelude.{List, [], ◌∷◌, Option, None, Some, map, ℕ, suc, ◌+◌, ◌-◌, ◌*◌, length, get_or, leb, ltb, eqb}
use Rattle.laws.specs.Pick.{pick}
use Rattle.pond.specs.PondRows.{last_sum, arrived, next, empty}
use Rattle.pond.specs.declared.State.{State}

-- the states after each row, from the state before the first
unfoldable pub states : ℕ → List ℕ → State → List ℕ → List State
states h p st [] = []
states h p st (v ∷ vs) = next h p st v ∷ states h p (next h p st v) vs

-- the state after the last row
unfoldable pub end_of : ℕ → List ℕ → State → List ℕ → State
end_of h p st [] = st
end_of h p st (v ∷ vs) = end_of h p (next h p st v) vs

abbrev pub outflow_of : State → ℕ
outflow_of st = st.outflow

abbrev pub storage_of : State → ℕ
storage_of st = st.storage

-- the outflow rows, the storage rows
abbrev pub outflows : ℕ → List ℕ → State → List ℕ → List ℕ
outflows h p st vs = map outflow_of (states h p st vs)

abbrev pub storages : ℕ → List ℕ → State → List ℕ → List ℕ
storages h p st vs = map storage_of (states h p st vs)

-- how many rows pass before the first whose X is above the last X_i
unfoldable pub passed : ℕ → List ℕ → State → List ℕ → ℕ
passed h p st [] = 0
passed h p st (v ∷ vs) = pick (leb (arrived h st v) (last_sum h p)) (suc (passed h p (next h p st v) vs)) 0

-- refusal 14: that row, from 0; none where every row passes
unfoldable pub over_row : ℕ → List ℕ → State → List ℕ → Option ℕ
over_row h p st vs = pick (ltb (passed h p st vs) (length vs)) (Some (passed h p st vs)) None

-- the inflow through the rows, and what they release: h times old plus new outflow, summed
unfoldable pub total : List ℕ → ℕ
total [] = 0
total (v ∷ vs) = v + total vs

unfoldable pub water_released : ℕ → List ℕ → State → List ℕ → ℕ
water_released h p st [] = 0
water_released h p st (v ∷ vs) = h * (st.outflow + (next h p st v).outflow) + water_released h p (next h p st v) vs

-- the state before row a (from 0), as the rows have it (a - 1 is read only where a is not 0)
unfoldable pub state_before : List ℕ → List ℕ → ℕ → State
state_before os ss a = pick (eqb a 0) empty (record { storage = get_or ss (a - 1) 0; outflow = get_or os (a - 1) 0 })
