-- Rows written from a row on, and the loop that writes and tallies them. Assumes nothing.
use mathlib.Core.Path.{◌≡◌, refl, sym, ap, subst, ◌∙◌}
use mathlib.Core.Logic.{⊎_elim}
use mathlib.Core.List.{List, [], ◌∷◌, ◌++◌, map}
use Prim.Native.Nat.{ℕ, zero, suc, ◌+◌, ◌-◌, ◌*◌, ◌≤◌, ◌<◌}
use native.Mathlib.Nat.{le_of_suc-le-suc}
use native.Mathlib.Numerals.{add-one}
use native.Mathlib.Omega.{arith}
use borrow.Author.Tests.{ne_eqb}
use lib.ListN.{length, take, drop, set, length-set, length-append, length-drop, get_or-append}
use lib.Seq.{length-take-le, take_all, get_or-append-add, get_or-take, get_or-drop, ext_get_or}
use Rattle.laws.specs.Filled.{Filled}
use Rattle.laws.proofs.Num.{below_or_not}
use Rattle.laws.proofs.Fill.{filled_none, filled_more}
use Rattle.pond.specs.PondRows.{last_sum, arrived, next, empty}
use Rattle.pond.specs.Needs.{PondOk, StateOk}
use Rattle.pond.specs.declared.State.{State}
use Rattle.pond.proofs.Sums.{last_most}
use Rattle.pond.proofs.Steps.{settled_ok, settled_sum, empty_ok}
use Rattle.rows.specs.declared.Tally.{Tally}
use Rattle.rows.specs.Routing.{states, end_of, outflow_of, storage_of, outflows, storages, passed, state_before}
use Rattle.rows.specs.Needs.{InflowOk, row_sum, tally_to, tally_with, tally_on, TurnOk, RoomOk, RowOk, RowsBefore, RowsOk}
use Rattle.rows.specs.Figures.{at, before}
use Rattle.rows.proofs.Columns.{column_at, column_length, end_next, end_more}
use Rattle.rows.proofs.Keeping.{tally_more, tally_same}
use Rattle.rows.proofs.Reached.{pass_at, reach_ok, row_stands}
use Rattle.rows.proofs.Turns.{turn_ok}

-- the state before a later row is the row before it
pub before_more : (os ss : List ℕ) (k : ℕ) → state_before os ss (suc k) ≡ record { storage = at ss k; outflow = at os k }
unfolding state_before
before_more os ss k = let back : suc k - 1 ≡ k = omega arith in rw (ne_eqb (suc k) 0 (omega arith), back)

-- before the first row the pond is empty
pub before_none : (os ss : List ℕ) → state_before os ss 0 ≡ empty
unfolding state_before
before_none os ss = refl

-- the outflow of the state before a row is the one before it
pub before_flow : (os ss : List ℕ) (n : ℕ) → (state_before os ss n).outflow ≡ before 0 os n
unfolding state_before
before_flow os ss zero = refl
before_flow os ss (suc k) = let back : suc k - 1 ≡ k = omega arith in rw (ne_eqb (suc k) 0 (omega arith), back)

-- rows that agree before a row have the same state there
before_like : (os ss newo news : List ℕ) (n : ℕ) → ((i : ℕ) → i < n → at os i ≡ at newo i) → ((i : ℕ) → i < n → at ss i ≡ at news i) → state_before os ss n ≡ state_before newo news n
unfolding state_before
before_like os ss newo news zero each-o each-s = refl
before_like os ss newo news (suc k) each-o each-s =
    before_more os ss k ∙ (rw (each-o k (omega arith), each-s k (omega arith))) ∙ sym (before_more newo news k)

-- after rows that can be a pond's it is a good one
pub before_ok : (h : ℕ) (p os ss : List ℕ) (n : ℕ) → RowsBefore h p os ss n → StateOk h p (state_before os ss n)
unfolding state_before
before_ok h p os ss zero rows = empty_ok h p
before_ok h p os ss (suc k) rows =
    let r = rows.each k (omega arith) in
    rw (before_more os ss k) (record { covers = r.covers; within_last = r.within_last })

module _ (h : ℕ) (p : List ℕ) where
  -- a tally that goes on, by one row more
  pub on_next : (f : Tally) (a : ℕ) (st : State) (k : ℕ) (vs : List ℕ) → k < length vs
      → tally_on h p f a st (take (suc k) vs)
      ≡ tally_with (tally_on h p f a st (take k vs)) h (at vs k) (end_of h p st (take k vs)).outflow (next h p (end_of h p st (take k vs)) (at vs k)).outflow (arrived h (end_of h p st (take k vs)) (at vs k)) (a + k + 1)
  unfolding tally_on end_of
  on_next f a st k [] l = absurd (omega arith)
  on_next f a st zero (v ∷ vs) l = let one : a + 0 + 1 ≡ a + 1 = omega arith in rw one
  on_next f a st (suc k) (v ∷ vs) l =
      let one : a + suc k + 1 ≡ a + 1 + k + 1 = omega arith in
      rw one (on_next (tally_with f h v st.outflow (next h p st v).outflow (arrived h st v) (a + 1)) (a + 1) (next h p st v) k vs (le_of_suc-le-suc l))

  pub on_more : (f : Tally) (a : ℕ) (st : State) (k : ℕ) (vs : List ℕ) → k < length vs
      → tally_on h p f a st (take (k + 1) vs)
      ≡ tally_with (tally_on h p f a st (take k vs)) h (at vs k) (end_of h p st (take k vs)).outflow (next h p (end_of h p st (take k vs)) (at vs k)).outflow (arrived h (end_of h p st (take k vs)) (at vs k)) (a + k + 1)
  on_more f a st k vs l = rw (add-one k) (on_next f a st k vs l)

-- what `write_from` leaves of a column: the rows before row a, then those from the state st
abbrev pub whole_of : ℕ → List ℕ → (State → ℕ) → List ℕ → State → List ℕ → ℕ → List ℕ
whole_of h p f l st vs a = take a l ++ map f (states h p st (drop a vs))

module _ (h : ℕ) (p : List ℕ) (f : State → ℕ) (l : List ℕ) (st : State) (vs : List ℕ) (a : ℕ) (same : length l ≡ length vs) (inside : a ≤ length vs) where
  front_long : length (take a l) ≡ a
  front_long = length-take-le a l (omega arith)

  -- as many rows as inflows
  pub whole_long : length (whole_of h p f l st vs a) ≡ length vs
  whole_long = omega (arith, length-append (take a l) (map f (states h p st (drop a vs))), front_long, column_length h p f st (drop a vs), length-drop a vs)

  -- a row before row a stands as it stood
  pub whole_early : (i : ℕ) → i < a → at (whole_of h p f l st vs a) i ≡ at l i
  whole_early i m = get_or-append (take a l) (map f (states h p st (drop a vs))) 0 i (omega (arith, front_long)) ∙ get_or-take a l i 0 m

  -- one from a on is that of the rows written
  whole_late : (k : ℕ) → at (whole_of h p f l st vs a) (a + k) ≡ at (map f (states h p st (drop a vs))) k
  whole_late k =
      ap (λ (z : ℕ). at (whole_of h p f l st vs a) (z + k)) (sym front_long) ∙ get_or-append-add (take a l) (map f (states h p st (drop a vs))) k 0

module _ {h : ℕ} {p : List ℕ} (ok : PondOk h p) (vs os ss : List ℕ) (a : ℕ) (rows : RowsBefore h p os ss a) (inside : a ≤ length vs)
    (all : passed h p (state_before os ss a) (drop a vs) ≡ length vs - a) (lo : length os ≡ length vs) (ls : length ss ≡ length vs) where
  abbrev st : State
  st = state_before os ss a

  abbrev new_out : List ℕ
  new_out = whole_of h p outflow_of os st vs a

  abbrev new_held : List ℕ
  new_held = whole_of h p storage_of ss st vs a

  -- the state before a row is the one that the rows before it reach
  reach : (k : ℕ) → a + k ≤ length vs → state_before new_out new_held (a + k) ≡ end_of h p st (take k (drop a vs))
  unfolding end_of
  reach zero l =
      let none : a + 0 ≡ a = omega arith in
      rw none (before_like new_out new_held os ss a (whole_early h p outflow_of os st vs a lo inside) (whole_early h p storage_of ss st vs a ls inside))
  reach (suc k) l =
      let one : a + suc k ≡ suc (a + k) = omega arith in
      let here : k < length (drop a vs) = omega (arith, length-drop a vs) in
      ap (state_before new_out new_held) one ∙ before_more new_out new_held (a + k)
      ∙ (rw (whole_late h p outflow_of os st vs a lo inside k, whole_late h p storage_of ss st vs a ls inside k, column_at h p outflow_of st k (drop a vs) here, column_at h p storage_of st k (drop a vs) here)
      (sym (end_next h p st k (drop a vs) here)))

  -- the row a + k
  stood : (k : ℕ) → a + k < length vs → RowOk h p (at new_out (a + k)) (at new_held (a + k))
  stood k l =
      rw (whole_late h p outflow_of os st vs a lo inside k, whole_late h p storage_of ss st vs a ls inside k)
      (row_stands ok st (drop a vs) (before_ok h p os ss a rows) k (omega (arith, all)))

  -- it passes
  passing : (k : ℕ) → a + k < length vs → arrived h (state_before new_out new_held (a + k)) (at vs (a + k)) ≤ last_sum h p
  passing k l =
      rw (reach k (omega arith), ← get_or-drop a vs k 0) (pass_at h p st k (drop a vs) (omega (arith, all)))

  -- it is the step from the one before it
  stepping : (k : ℕ) → a + k < length vs → ◌≡◌ {A = State} (record { storage = at new_held (a + k); outflow = at new_out (a + k) }) (next h p (state_before new_out new_held (a + k)) (at vs (a + k)))
  stepping k l =
      let here : k < length (drop a vs) = omega (arith, length-drop a vs) in
      rw (reach k (omega arith), ← get_or-drop a vs k 0, whole_late h p outflow_of os st vs a lo inside k, whole_late h p storage_of ss st vs a ls inside k, column_at h p outflow_of st k (drop a vs) here, column_at h p storage_of st k (drop a vs) here)

  -- its X is what arrived
  sum_here : (k : ℕ) → a + k < length vs → row_sum h new_out new_held (a + k) ≡ arrived h (state_before new_out new_held (a + k)) (at vs (a + k))
  sum_here k l =
      ap (λ (z : State). z.storage + h * z.outflow) (stepping k l) ∙ settled_sum ok (arrived h (state_before new_out new_held (a + k)) (at vs (a + k))) (passing k l)

  -- the rows that `write_from` leaves can be a pond's
  pub whole_ok : length vs ≤ 2000 → RowsOk h p new_out new_held
  whole_ok few =
      let long = whole_long h p outflow_of os st vs a lo inside in
      record {
        long = whole_long h p storage_of ss st vs a ls inside ∙ sym long;
        few = omega (arith, long);
        each = λ i l. ⊎_elim (early i) (λ (m : a ≤ i). subst (λ (z : ℕ). RowOk h p (at new_out z) (at new_held z)) (past i m) (stood (i - a) (omega (arith, long)))) (below_or_not i a);
      }
    where
      past : (i : ℕ) → a ≤ i → a + (i - a) ≡ i
      past i m = omega arith

      early : (i : ℕ) → i < a → RowOk h p (at new_out i) (at new_held i)
      early i m = rw (whole_early h p outflow_of os st vs a lo inside i m, whole_early h p storage_of ss st vs a ls inside i m) (rows.each i m)

  -- the tally that goes on is the tally of those rows, row by row
  on_to : (k : ℕ) → a + k ≤ length vs → tally_on h p (tally_to h 0 vs new_out new_held a) a st (take k (drop a vs)) ≡ tally_to h 0 vs new_out new_held (a + k)
  unfolding tally_on
  on_to zero l = let none : a + 0 ≡ a = omega arith in rw none
  on_to (suc k) l =
      let here : k < length (drop a vs) = omega (arith, length-drop a vs) in
      let e = stepping k (omega arith) in
      let one : a + suc k ≡ a + k + 1 = omega arith in
      let x : row_sum h new_out new_held (a + k) ≡ arrived h (state_before new_out new_held (a + k)) (at vs (a + k)) = sum_here k (omega arith) in
      on_next h p (tally_to h 0 vs new_out new_held a) a st k (drop a vs) here
      ∙ (rw (on_to k (omega arith), get_or-drop a vs k 0, ← reach k (omega arith), ← e, ← x, before_flow new_out new_held (a + k), one) (sym (tally_more h 0 vs new_out new_held (a + k))))

  -- and through the last of them
  pub on_whole : tally_on h p (tally_to h 0 vs os ss a) a st (drop a vs) ≡ tally_to h 0 vs new_out new_held (length new_out)
  on_whole =
      let same = tally_same h 0 vs new_out new_held os ss a (whole_early h p outflow_of os st vs a lo inside) (whole_early h p storage_of ss st vs a ls inside) in
      let all : a + (length vs - a) ≡ length new_out = omega (arith, whole_long h p outflow_of os st vs a lo inside) in
      let rest = take_all (length vs - a) (drop a vs) (omega (arith, length-drop a vs)) in
      ap (λ (f : Tally). tally_on h p f a st (drop a vs)) (sym same) ∙ ap (tally_on h p (tally_to h 0 vs new_out new_held a) a st) (sym rest)
      ∙ on_to (length vs - a) (omega arith) ∙ ap (tally_to h 0 vs new_out new_held) all

-- rows written before row i, and tallied with the a rows before them
pub record Writing (h : ℕ) (p : List ℕ) (f : Tally) (a : ℕ) (st : State) (vs outflow storage : List ℕ) (last : State) (tally : Tally) (i : ℕ) : Type 0 where
  pub so_far : i ≤ length vs
  pub out_long : length outflow ≡ length vs
  pub held_long : length storage ≡ length vs
  pub reached : last ≡ end_of h p st (take i vs)
  pub outs : Filled (at (outflows h p st vs)) i outflow
  pub helds : Filled (at (storages h p st vs)) i storage
  pub figures : tally ≡ tally_on h p f a st (take i vs)
  pub inflow_most : tally.inflow ≤ (a + i) * 1000000000000000
  pub released_most : tally.released ≤ (a + i) * 3000000000000

-- a column that is filled is the column
column_whole : (h : ℕ) (p : List ℕ) (f : State → ℕ) (st : State) (vs l : List ℕ) (i : ℕ) → length l ≡ length vs → length vs ≤ i
    → Filled (at (map f (states h p st vs))) i l → l ≡ map f (states h p st vs)
column_whole h p f st vs l i long all so =
    ext_get_or 0 l (map f (states h p st vs)) (long ∙ sym (column_length h p f st vs)) (λ k m. so.each k (omega arith))

module _ {h : ℕ} {p : List ℕ} (ok : PondOk h p) (f : Tally) (a : ℕ) (st : State) (vs : List ℕ) (so : StateOk h p st) (come : InflowOk vs) (room : RoomOk f a (length vs)) (all : passed h p st vs ≡ length vs) where
  pub write_start : (outflow storage : List ℕ) → length outflow ≡ length vs → length storage ≡ length vs → Writing h p f a st vs outflow storage st f 0
  unfolding end_of tally_on
  write_start outflow storage lo ls =
      record {
        so_far = omega arith;
        out_long = lo;
        held_long = ls;
        reached = refl;
        outs = filled_none _ _;
        helds = filled_none _ _;
        figures = refl;
        inflow_most = omega (arith, room.inflow_most);
        released_most = omega (arith, room.released_most);
      }

  module _ (outflow storage : List ℕ) (last : State) (tally : Tally) (i : ℕ) (w : Writing h p f a st vs outflow storage last tally i) where
    -- the state before a row is a good one
    pub write_ok : StateOk h p last
    write_ok = rw w.reached (reach_ok ok st i vs so (omega (arith, w.so_far)))

    module _ (l : i < length vs) where
      -- the row passes
      pub write_top : arrived h last (at vs i) ≤ last_sum h p
      write_top = rw w.reached (pass_at h p st i vs (omega arith))

      -- half a step of the old outflow and of the new is small
      old_small : h * last.outflow ≤ 1018000000000
      old_small = omega (arith, write_ok.within_last, last_most ok)

      new_small : h * (next h p last (at vs i)).outflow ≤ 1018000000000
      new_small = omega (arith, (settled_ok ok (arrived h last (at vs i)) write_top).within_last, last_most ok)

      -- there is room for it
      pub write_room : TurnOk tally h (at vs i) last.outflow (next h p last (at vs i)).outflow
      write_room = turn_ok tally h (at vs i) last.outflow (next h p last (at vs i)).outflow ok.half.least old_small new_small (come.small i l)
          (omega (arith, w.inflow_most, room.few)) (omega (arith, w.released_most, room.few))

      -- it is written and tallied
      pub write_turn : Writing h p f a st vs (set outflow i (next h p last (at vs i)).outflow) (set storage i (next h p last (at vs i)).storage) (next h p last (at vs i))
          (tally_with tally h (at vs i) last.outflow (next h p last (at vs i)).outflow (arrived h last (at vs i)) (a + i + 1)) (i + 1)
      write_turn =
          record {
            so_far = omega arith;
            out_long = simp length-set w.out_long;
            held_long = simp length-set w.held_long;
            reached = rw w.reached (sym (end_more h p st i vs l));
            outs = filled_more _ i outflow _ (omega (arith, w.out_long)) w.outs (rw w.reached (sym (column_at h p outflow_of st i vs l)));
            helds = filled_more _ i storage _ (omega (arith, w.held_long)) w.helds (rw w.reached (sym (column_at h p storage_of st i vs l)));
            figures = rw (w.figures, w.reached) (sym (on_more h p f a st i vs l));
            inflow_most = omega (arith, w.inflow_most, come.small i l);
            released_most = omega (arith, w.released_most, old_small, new_small);
          }

    -- no row is left
    pub write_end : length vs ≤ i → (tally ≡ tally_on h p f a st vs) × ((outflow ≡ outflows h p st vs) × (storage ≡ storages h p st vs))
    write_end l = (
      w.figures ∙ ap (tally_on h p f a st) (take_all i vs l),
      (column_whole h p outflow_of st vs outflow i w.out_long l w.outs, column_whole h p storage_of st vs storage i w.held_long l w.helds),
    )
