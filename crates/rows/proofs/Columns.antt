-- The rows by their index: what stands in row i, and the state before it. Assumes nothing.
use mathlib.Core.Path.{◌≡◌, refl, sym, ap, ◌∙◌}
use mathlib.Core.List.{List, [], ◌∷◌, ◌++◌, map}
use Prim.Native.Nat.{ℕ, zero, suc, ◌+◌, ◌-◌, ◌≤◌, ◌<◌}
use native.Mathlib.Nat.{le_of_suc-le-suc}
use native.Mathlib.Numerals.{add-one}
use native.Mathlib.Omega.{arith}
use lib.ListN.{length, take, drop, length-drop}
use lib.Seq.{get_or-drop}
use borrow.Author.Tests.{ne_eqb}
use Rattle.pond.specs.PondRows.{next, empty}
use Rattle.pond.specs.declared.State.{State}
use Rattle.rows.specs.Routing.{states, end_of, outflow_of, storage_of, outflows, storages, state_before}
use Rattle.rows.specs.Needs.{InflowOk}
use Rattle.rows.specs.Figures.{at, before}
use Rattle.rows.proofs.Prefix.{altered, take_column}

-- the inflow from a row on leaves room too
pub inflow_tail : (vs : List ℕ) (a : ℕ) → InflowOk vs → InflowOk (drop a vs)
inflow_tail vs a ok = record { small = λ i l. rw get_or-drop (ok.small (a + i) (omega (arith, length-drop a vs))) }

module _ (h : ℕ) (p : List ℕ) where
  -- as many rows as inflows
  pub column_length : (f : State → ℕ) (st : State) (vs : List ℕ) → length (map f (states h p st vs)) ≡ length vs
  unfolding states
  column_length f st [] = refl
  column_length f st (v ∷ vs) = ap suc (column_length f (next h p st v) vs)

  -- row i is the step from the state that the rows before it reach
  pub column_at : (f : State → ℕ) (st : State) (i : ℕ) (vs : List ℕ) → i < length vs → at (map f (states h p st vs)) i ≡ f (next h p (end_of h p st (take i vs)) (at vs i))
  unfolding states end_of
  column_at f st i [] l = absurd (omega arith)
  column_at f st zero (v ∷ vs) l = refl
  column_at f st (suc i) (v ∷ vs) l = column_at f (next h p st v) i vs (le_of_suc-le-suc l)

  -- and leads to the next state
  pub end_next : (st : State) (i : ℕ) (vs : List ℕ) → i < length vs → end_of h p st (take (suc i) vs) ≡ next h p (end_of h p st (take i vs)) (at vs i)
  unfolding end_of
  end_next st i [] l = absurd (omega arith)
  end_next st zero (v ∷ vs) l = refl
  end_next st (suc i) (v ∷ vs) l = end_next (next h p st v) i vs (le_of_suc-le-suc l)

  pub end_more : (st : State) (i : ℕ) (vs : List ℕ) → i < length vs → end_of h p st (take (i + 1) vs) ≡ next h p (end_of h p st (take i vs)) (at vs i)
  end_more st i vs l = rw add-one (end_next st i vs l)

  -- the outflow before row i is that of the state reached
  pub before_at : (st : State) (i : ℕ) (vs : List ℕ) → i ≤ length vs → before st.outflow (outflows h p st vs) i ≡ (end_of h p st (take i vs)).outflow
  unfolding end_of
  before_at st zero vs l = refl
  before_at st (suc i) vs l =
      let back : suc i - 1 ≡ i = omega arith in
      rw (ne_eqb (suc i) 0 (omega arith), back) (column_at outflow_of st i vs l ∙ ap outflow_of (sym (end_next st i vs l)))

  -- the state before row a, as the rows have it, is the one that the rows before it reach
  pub before_is : (a : ℕ) (vs : List ℕ) → a ≤ length vs → state_before (outflows h p empty vs) (storages h p empty vs) a ≡ end_of h p empty (take a vs)
  unfolding state_before end_of
  before_is zero vs l = refl
  before_is (suc k) vs l =
      let back : suc k - 1 ≡ k = omega arith in
      rw (ne_eqb (suc k) 0 (omega arith), back, column_at storage_of empty k vs l, column_at outflow_of empty k vs l) (sym (end_next empty k vs l))

  -- rows of vs, routed again from row a on with ws, which is vs before row a, are the rows of ws
  pub edit_is_new : (f : State → ℕ) (a : ℕ) (vs ws : List ℕ) → a ≤ length vs → take a vs ≡ take a ws
      → take a (map f (states h p empty vs)) ++ map f (states h p (state_before (outflows h p empty vs) (storages h p empty vs) a) (drop a ws)) ≡ map f (states h p empty ws)
  edit_is_new f a vs ws l same = rw (before_is a vs l, take_column h p f empty a vs) (altered h p f empty a vs ws same)
