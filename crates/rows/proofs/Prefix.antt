-- Routing xs ++ ys is routing xs, and then ys from the state reached. Assumes nothing.
use mathlib.Core.Path.{◌≡◌, refl, sym, ap, ◌∙◌}
use mathlib.Core.Bool.{Bool, true, false}
use mathlib.Core.List.{List, [], ◌∷◌, ◌++◌, map, map-append}
use Prim.Native.Nat.{ℕ, zero, suc, ◌+◌, ◌≤◌, ◌<◌}
use native.Mathlib.Omega.{arith}
use lib.ListN.{length, take, drop, take-append-drop}
use lib.Dec.{leb}
use borrow.Author.Tests.{leb-true, le-leb}
use Rattle.laws.specs.Pick.{pick}
use Rattle.laws.proofs.Tests.{by_test}
use Rattle.pond.specs.PondRows.{last_sum, arrived, next}
use Rattle.pond.specs.declared.State.{State}
use Rattle.rows.specs.Routing.{states, end_of, passed, water_released}

module _ (h : ℕ) (p : List ℕ) where
  -- the states of two lists one after the other
  pub states_append : (st : State) (xs ys : List ℕ) → states h p st (xs ++ ys) ≡ states h p st xs ++ states h p (end_of h p st xs) ys
  unfolding states end_of
  states_append st [] ys = refl
  states_append st (v ∷ xs) ys = ap (λ (l : List State). next h p st v ∷ l) (states_append (next h p st v) xs ys)

  -- and the state after them
  pub end_append : (st : State) (xs ys : List ℕ) → end_of h p st (xs ++ ys) ≡ end_of h p (end_of h p st xs) ys
  unfolding end_of
  end_append st [] ys = refl
  end_append st (v ∷ xs) ys = end_append (next h p st v) xs ys

  -- any column of the rows
  pub column_append : (f : State → ℕ) (st : State) (xs ys : List ℕ) → map f (states h p st (xs ++ ys)) ≡ map f (states h p st xs) ++ map f (states h p (end_of h p st xs) ys)
  column_append f st xs ys = ap (map f) (states_append st xs ys) ∙ map-append f (states h p st xs) (states h p (end_of h p st xs) ys)

  -- what they release
  pub released_append : (st : State) (xs ys : List ℕ) → water_released h p st (xs ++ ys) ≡ water_released h p st xs + water_released h p (end_of h p st xs) ys
  unfolding water_released end_of
  released_append st [] ys = omega arith
  released_append st (v ∷ xs) ys = omega (arith, released_append (next h p st v) xs ys)

  -- a list of rows that all pass: its first passes, and so do the others after it
  pub record Passes (st : State) (v : ℕ) (vs : List ℕ) : Type 0 where
    pub first : arrived h st v ≤ last_sum h p
    pub others : passed h p (next h p st v) vs ≡ length vs

  pub passes : (st : State) (v : ℕ) (vs : List ℕ) → passed h p st (v ∷ vs) ≡ suc (length vs) → Passes st v vs
  unfolding passed
  passes st v vs e = go (leb (arrived h st v) (last_sum h p)) refl e
    where
      go : (b : Bool) → leb (arrived h st v) (last_sum h p) ≡ b → pick b (suc (passed h p (next h p st v) vs)) 0 ≡ suc (length vs) → Passes st v vs
      go true t q = record { first = leb-true _ _ t; others = omega arith }
      go false t q = absurd (omega arith)

  -- a first row that passes, with the others
  pub passes_cons : (st : State) (v : ℕ) (vs : List ℕ) → Passes st v vs → passed h p st (v ∷ vs) ≡ suc (length vs)
  unfolding passed
  passes_cons st v vs r = rw (le-leb (arrived h st v) (last_sum h p) r.first) (ap suc r.others)

  -- no more pass than there are
  pub passed_most : (st : State) (vs : List ℕ) → passed h p st vs ≤ length vs
  unfolding passed
  passed_most st [] = omega arith
  passed_most st (v ∷ vs) =
      by_test (λ (r : ℕ). r ≤ suc (length vs)) (leb (arrived h st v) (last_sum h p)) (suc (passed h p (next h p st v) vs)) 0
      (λ t. omega (arith, passed_most (next h p st v) vs)) (λ t. omega arith)

  -- how many pass of two lists, where the first all pass
  pub passed_append : (st : State) (xs ys : List ℕ) → passed h p st xs ≡ length xs → passed h p st (xs ++ ys) ≡ length xs + passed h p (end_of h p st xs) ys
  unfolding passed end_of
  passed_append st [] ys e = omega arith
  passed_append st (v ∷ xs) ys e =
      let r = passes st v xs e in
      rw (le-leb (arrived h st v) (last_sum h p) r.first) (omega (arith, passed_append (next h p st v) xs ys r.others))

  -- and where one of the first goes over
  pub passed_short : (st : State) (xs ys : List ℕ) → passed h p st xs < length xs → passed h p st (xs ++ ys) ≡ passed h p st xs
  unfolding passed
  passed_short st [] ys l = absurd (omega arith)
  passed_short st (v ∷ xs) ys l = go (leb (arrived h st v) (last_sum h p)) l (passed_short (next h p st v) xs ys)
    where
      go : (b : Bool) → pick b (suc (passed h p (next h p st v) xs)) 0 < suc (length xs)
          → (passed h p (next h p st v) xs < length xs → passed h p (next h p st v) (xs ++ ys) ≡ passed h p (next h p st v) xs)
          → pick b (suc (passed h p (next h p st v) (xs ++ ys))) 0 ≡ pick b (suc (passed h p (next h p st v) xs)) 0
      go true q more = ap suc (more (omega arith))
      go false q more = refl

  -- the rows before the first that goes over pass
  pub passed_part : (st : State) (k : ℕ) (vs : List ℕ) → k ≤ passed h p st vs → passed h p st (take k vs) ≡ length (take k vs)
  unfolding passed
  passed_part st zero vs l = refl
  passed_part st (suc k) [] l = refl
  passed_part st (suc k) (v ∷ vs) l = go (leb (arrived h st v) (last_sum h p)) l (passed_part (next h p st v) k vs)
    where
      go : (b : Bool) → suc k ≤ pick b (suc (passed h p (next h p st v) vs)) 0
          → (k ≤ passed h p (next h p st v) vs → passed h p (next h p st v) (take k vs) ≡ length (take k vs))
          → pick b (suc (passed h p (next h p st v) (take k vs))) 0 ≡ suc (length (take k vs))
      go true q more = ap suc (more (omega arith))
      go false q more = absurd (omega arith)

  -- the first rows of a list that passes pass
  pub passed_take : (st : State) (k : ℕ) (vs : List ℕ) → passed h p st vs ≡ length vs → passed h p st (take k vs) ≡ length (take k vs)
  unfolding passed
  passed_take st zero vs e = refl
  passed_take st (suc k) [] e = refl
  passed_take st (suc k) (v ∷ vs) e =
      let r = passes st v vs e in
      passes_cons st v (take k vs) (record { first = r.first; others = passed_take (next h p st v) k vs r.others })

  -- the first rows are those of the first inflows
  pub states_take : (st : State) (k : ℕ) (vs : List ℕ) → take k (states h p st vs) ≡ states h p st (take k vs)
  unfolding states
  states_take st zero vs = refl
  states_take st (suc k) [] = refl
  states_take st (suc k) (v ∷ vs) = ap (λ (l : List State). next h p st v ∷ l) (states_take (next h p st v) k vs)

  pub take_column : (f : State → ℕ) (st : State) (k : ℕ) (vs : List ℕ) → take k (map f (states h p st vs)) ≡ map f (take k (states h p st vs))
  unfolding states
  take_column f st zero vs = refl
  take_column f st (suc k) [] = refl
  take_column f st (suc k) (v ∷ vs) = ap (λ (l : List ℕ). f (next h p st v) ∷ l) (take_column f (next h p st v) k vs)

  -- where ws begins as vs for a rows, the old rows before a and the new rows from the state reached are the rows of ws
  pub altered : (f : State → ℕ) (st : State) (a : ℕ) (vs ws : List ℕ) → take a vs ≡ take a ws
      → map f (take a (states h p st vs)) ++ map f (states h p (end_of h p st (take a vs)) (drop a ws)) ≡ map f (states h p st ws)
  altered f st a vs ws same =
      rw (states_take st a vs, same)
      (sym (column_append f st (take a ws) (drop a ws)) ∙ ap (λ (l : List ℕ). map f (states h p st l)) (take-append-drop a ws))
