-- What contracts ask of a pond and its states, and proofs use; no rule of docs/SCOPE.md is here.
use Rattle.std.specs.Prelude.{◌≡◌, List, ℕ, ◌+◌, ◌*◌, ◌≤◌, ◌<◌, length}
use Rattle.pond.specs.declared.State.{State}
use Rattle.pond.specs.PondRows.{row_width, most_pond_rows, rows_in, stage, storage, discharge, last_sum}

-- h within the limits of a step
pub record HalfOk (h : ℕ) : Type 0 where
  pub least : 30 ≤ h
  pub most : h ≤ 1800

-- what refusal 12 leaves: whole rows, each within its limits and in order
pub record TableOk (p : List ℕ) : Type 0 where
  pub triples : length p ≡ row_width * rows_in p
  pub least : 2 ≤ rows_in p
  pub most : rows_in p ≤ most_pond_rows
  pub stages : (i : ℕ) → i < rows_in p → stage p i ≤ 1000000
  pub storages : (i : ℕ) → i < rows_in p → storage p i ≤ 1000000000000
  pub discharges : (i : ℕ) → i < rows_in p → discharge p i ≤ 10000000
  pub stage_up : (i : ℕ) → i + 1 < rows_in p → stage p i < stage p (i + 1)
  pub storage_up : (i : ℕ) → i + 1 < rows_in p → storage p i < storage p (i + 1)
  pub discharge_up : (i : ℕ) → i + 1 < rows_in p → discharge p i ≤ discharge p (i + 1)
  pub storage_first : storage p 0 ≡ 0
  pub discharge_first : discharge p 0 ≡ 0

-- what refusals 12 and 13 leave at a half step
pub record PondOk (h : ℕ) (p : List ℕ) : Type 0 where
  pub half : HalfOk h
  pub table : TableOk p
  pub held : (i : ℕ) → i < rows_in p → h * discharge p i ≤ storage p i

-- a good state: h times the outflow is at most the storage, their sum at most the last X_i
pub record StateOk (h : ℕ) (p : List ℕ) (st : State) : Type 0 where
  pub covers : h * st.outflow ≤ st.storage
  pub within_last : st.storage + h * st.outflow ≤ last_sum h p

-- what `line` is asked at
pub record BetweenOk (x x0 x1 y0 y1 : ℕ) : Type 0 where
  pub low : x0 ≤ x
  pub high : x ≤ x1
  pub apart : x0 < x1
  pub rising : y0 ≤ y1
  pub wide : x1 ≤ 1018000000000
  pub tall : y1 ≤ 10000000

-- what `arrive` is asked at: a state that covers half its outflow, and a sum that does not wrap
pub record ArriveOk (h : ℕ) (st : State) (v : ℕ) : Type 0 where
  pub covers : h * st.outflow ≤ st.storage
  pub storage_most : st.storage ≤ 1018000000000
  pub inflow_most : v ≤ 1000000000000000000
