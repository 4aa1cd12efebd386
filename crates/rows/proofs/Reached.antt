-- The states that the rows reach, row by row: good ones while rows pass, and where they stop. Assumes nothing.
use mathlib.Core.Path.{◌≡◌, refl, sym, ap, ◌∙◌}
use mathlib.Core.Bool.{Bool, true, false}
use mathlib.Core.Logic.{⊎_elim}
use mathlib.Core.List.{List, [], ◌∷◌}
use Prim.Native.Nat.{ℕ, zero, suc, ◌+◌, ◌*◌, ◌≤◌, ◌<◌}
use native.Mathlib.Nat.{le_of_suc-le-suc, eq-or-lt_of_le}
use native.Mathlib.Omega.{arith}
use lib.ListN.{length, take}
use lib.Dec.{leb}
use borrow.Author.Tests.{leb-true, leb-false}
use Rattle.laws.specs.Pick.{pick}
use Rattle.laws.specs.Sum.{sum_to}
use Rattle.pond.specs.PondRows.{last_sum, arrived, settled, next, empty}
use Rattle.pond.specs.Needs.{PondOk, StateOk}
use Rattle.pond.specs.declared.State.{State}
use Rattle.pond.proofs.Sums.{discharge_last_most}
use Rattle.pond.proofs.Steps.{settled_ok, settled_sum, step_balance, empty_ok}
use Rattle.rows.specs.Routing.{end_of, outflow_of, storage_of, outflows, storages, passed}
use Rattle.rows.specs.Figures.{at, before, release_at}
use Rattle.rows.specs.Needs.{RowOk, RowsOk}
use Rattle.rows.proofs.Prefix.{passed_most}
use Rattle.rows.proofs.Columns.{column_at, column_length, end_next, end_more, before_at}

module _ (h : ℕ) (p : List ℕ) where
  -- a row before the first that goes over does not
  pub pass_at : (st : State) (k : ℕ) (vs : List ℕ) → k < passed h p st vs → arrived h (end_of h p st (take k vs)) (at vs k) ≤ last_sum h p
  unfolding passed end_of
  pass_at st k [] l = absurd (omega arith)
  pass_at st zero (v ∷ vs) l = go (leb (arrived h st v) (last_sum h p)) refl l
    where
      go : (b : Bool) → leb (arrived h st v) (last_sum h p) ≡ b → 0 < pick b (suc (passed h p (next h p st v) vs)) 0 → arrived h st v ≤ last_sum h p
      go true t q = leb-true _ _ t
      go false t q = absurd (omega arith)
  pass_at st (suc k) (v ∷ vs) l = go (leb (arrived h st v) (last_sum h p)) l (pass_at (next h p st v) k vs)
    where
      go : (b : Bool) → suc k < pick b (suc (passed h p (next h p st v) vs)) 0
          → (k < passed h p (next h p st v) vs → arrived h (end_of h p (next h p st v) (take k vs)) (at vs k) ≤ last_sum h p)
          → arrived h (end_of h p (next h p st v) (take k vs)) (at vs k) ≤ last_sum h p
      go true q more = more (le_of_suc-le-suc q)
      go false q more = absurd (omega arith)

  -- the first that goes over does
  pub over_at : (st : State) (vs : List ℕ) → passed h p st vs < length vs → last_sum h p < arrived h (end_of h p st (take (passed h p st vs) vs)) (at vs (passed h p st vs))
  unfolding passed end_of
  over_at st [] l = absurd (omega arith)
  over_at st (v ∷ vs) l = go (leb (arrived h st v) (last_sum h p)) refl l (over_at (next h p st v) vs)
    where
      go : (b : Bool) → leb (arrived h st v) (last_sum h p) ≡ b → pick b (suc (passed h p (next h p st v) vs)) 0 < suc (length vs)
          → (passed h p (next h p st v) vs < length vs → last_sum h p < arrived h (end_of h p (next h p st v) (take (passed h p (next h p st v) vs) vs)) (at vs (passed h p (next h p st v) vs)))
          → last_sum h p < arrived h (end_of h p st (take (pick b (suc (passed h p (next h p st v) vs)) 0) (v ∷ vs))) (at (v ∷ vs) (pick b (suc (passed h p (next h p st v) vs)) 0))
      go true t q more = more (le_of_suc-le-suc q)
      go false t q more = leb-false _ _ t

  -- a row that passes after rows that pass
  pub pass_more : (st : State) (k : ℕ) (vs : List ℕ) → k ≤ passed h p st vs → k < length vs → arrived h (end_of h p st (take k vs)) (at vs k) ≤ last_sum h p → k < passed h p st vs
  pass_more st k vs l m t =
      ⊎_elim (λ (e : k ≡ passed h p st vs). absurd (stop e)) (λ (w : k < passed h p st vs). w) (eq-or-lt_of_le l)
    where
      stop : k ≡ passed h p st vs → ⊥
      stop e = omega (arith, t, rw (← e) at (over_at st vs (omega arith)))

  -- a row that goes over after rows that pass is the first
  pub pass_stop : (st : State) (k : ℕ) (vs : List ℕ) → k ≤ passed h p st vs → last_sum h p < arrived h (end_of h p st (take k vs)) (at vs k) → passed h p st vs ≡ k
  pass_stop st k vs l t =
      ⊎_elim (λ (e : k ≡ passed h p st vs). sym e) (λ (w : k < passed h p st vs). absurd (never w)) (eq-or-lt_of_le l)
    where
      never : k < passed h p st vs → ⊥
      never w = omega (arith, t, pass_at st k vs w)

module _ {h : ℕ} {p : List ℕ} (ok : PondOk h p) where
  -- every state reached is a good one
  pub reach_ok : (st : State) (k : ℕ) (vs : List ℕ) → StateOk h p st → k ≤ passed h p st vs → StateOk h p (end_of h p st (take k vs))
  unfolding end_of
  reach_ok st zero vs so l = so
  reach_ok st (suc k) vs so l =
      rw (end_next h p st k vs (omega (arith, passed_most h p st vs)))
      (settled_ok ok (arrived h (end_of h p st (take k vs)) (at vs k)) (pass_at h p st k vs l))

  module _ (st : State) (vs : List ℕ) (so : StateOk h p st) where
    -- through every row: what stood at the start and came in is what stands and was released
    pub balance_to : (k : ℕ) → k ≤ passed h p st vs
        → st.storage + sum_to (at vs) k ≡ (end_of h p st (take k vs)).storage + sum_to (release_at h st.outflow (outflows h p st vs)) k
    unfolding end_of sum_to
    balance_to zero l = omega arith
    balance_to (suc k) l =
        let here : k < length vs = omega (arith, passed_most h p st vs) in
        let s = end_of h p st (take k vs) in
        let old = before_at h p st k vs (omega arith) in
        let new = column_at h p outflow_of st k vs here in
        let flows : before st.outflow (outflows h p st vs) k + at (outflows h p st vs) k ≡ s.outflow + (next h p s (at vs k)).outflow = omega (arith, old, new) in
        omega (
          arith,
          balance_to k (omega arith),
          step_balance ok s (at vs k) (reach_ok st k vs so (omega arith)) (pass_at h p st k vs l),
          ap (λ (z : ℕ). h * z) flows,
          ap storage_of (end_next h p st k vs here),
        )

    -- rows left by routing can be a pond's
    pub row_stands : (k : ℕ) → k < passed h p st vs → RowOk h p (at (outflows h p st vs) k) (at (storages h p st vs) k)
    unfolding settled
    row_stands k l =
        let here : k < length vs = omega (arith, passed_most h p st vs) in
        let x = arrived h (end_of h p st (take k vs)) (at vs k) in
        let top = pass_at h p st k vs l in
        rw (column_at h p outflow_of st k vs here, column_at h p storage_of st k vs here)
        (record {
          outflow_most = discharge_last_most ok x top;
          covers = (settled_ok ok x top).covers;
          within_last = (settled_ok ok x top).within_last;
        })

    -- and X of such a row is what arrived
    pub row_sum_lem : (k : ℕ) → k < passed h p st vs → at (storages h p st vs) k + h * at (outflows h p st vs) k ≡ arrived h (end_of h p st (take k vs)) (at vs k)
    row_sum_lem k l =
        let here : k < length vs = omega (arith, passed_most h p st vs) in
        rw (column_at h p outflow_of st k vs here, column_at h p storage_of st k vs here)
        (settled_sum ok (arrived h (end_of h p st (take k vs)) (at vs k)) (pass_at h p st k vs l))

  -- rows of a list that all pass can be a pond's
  pub rows_stand : (st : State) (vs : List ℕ) → StateOk h p st → passed h p st vs ≡ length vs → length vs ≤ 2000 → RowsOk h p (outflows h p st vs) (storages h p st vs)
  rows_stand st vs so e few =
      let os = column_length h p outflow_of st vs in
      record {
        long = column_length h p storage_of st vs ∙ sym os;
        few = omega (arith, os);
        each = λ i l. row_stands st vs so i (omega (arith, os));
      }

  -- the pond that starts empty: through every row, all inflow since the start is the water stored with the water released
  pub balance : (vs : List ℕ) → passed h p empty vs ≡ length vs → (k : ℕ) → k < length vs
      → sum_to (at vs) (k + 1) ≡ at (storages h p empty vs) k + sum_to (release_at h 0 (outflows h p empty vs)) (k + 1)
  balance vs e k l =
      omega (
        arith,
        balance_to empty vs (empty_ok h p) (k + 1) (omega arith),
        ap storage_of (end_more h p empty k vs l),
        column_at h p storage_of empty k vs l,
      )
