-- The new inflow rows block by block: written over those found, or held against them for the first that differs. Assumes nothing.
use mathlib.Core.Path.{◌≡◌, refl, sym, ap, ◌∙◌, subst}
use mathlib.Core.Bool.{Bool, true, false}
use mathlib.Core.Logic.{⊎_elim}
use mathlib.Core.List.{List, ◌++◌, append_assoc, append-nil}
use Prim.Native.Nat.{ℕ, ◌+◌, ◌-◌, ◌≤◌, ◌<◌}
use native.Mathlib.Omega.{arith}
use borrow.Rule.Slice.PartMut.{mid_of, put_mid, mid_len}
use borrow.Author.Tests.{ltb-true, ltb-false}
use lib.Dec.{eqb, ltb}
use lib.ListN.{length, take, drop, length-append, length-drop}
use lib.Seq.{take_at, drop_at, drop-drop, take-add, take_all, length-take-le, get_or-take, get_or-drop}
use Rattle.std.specs.Prelude.{Option, Some, None}
use Rattle.std.specs.Option.{unwrap_or}
use Rattle.std.proofs.lemmas.Option.{none-some}
use Rattle.laws.specs.Pick.{pick}
use Rattle.laws.specs.Scan.{scan}
use Rattle.laws.specs.Search.{first_bad_of}
use Rattle.refusals.specs.Refusals.{stopped}
use Rattle.refusals.proofs.Orders.{stopped_none}
use Rattle.laws.proofs.Places.{search_scan}
use Rattle.laws.proofs.Num.{below_or_not}
use Rattle.laws.proofs.Fill.{drop_none}
use Rattle.laws.proofs.Scans.{scan_most, scan_before, scan_bad, scan_is}
use Rattle.rows.specs.Figures.{at}
use Rattle.alter.specs.Altering.{swapped, first_changed}
use Rattle.alter.specs.Needs.{PartsFit}
use Rattle.alter.proofs.Swapping.{swapped_length, swapped_at, swapped_append}

-- where a search gives the number of places for none, the place or their number is where a scan stops
stopped_or : (at many : ℕ) → at ≤ many → unwrap_or (stopped at many) many ≡ at
stopped_or at many l = go (ltb at many) refl
  where
    go : (b : Bool) → ltb at many ≡ b → unwrap_or (pick b (Some at) None) many ≡ at
    go true t = refl
    go false t = omega (arith, l, ltb-false at many t)

pub first_found : (vs ws : List ℕ) → unwrap_or (first_bad_of (λ i. eqb (at vs i) (at ws i)) (length vs)) (length vs) ≡ first_changed vs ws
unfolding first_changed
first_found vs ws =
    let good : ℕ → Bool = λ i. eqb (at vs i) (at ws i) in
    rw (search_scan good (length vs)) (stopped_or (scan good (length vs) 0) (length vs) (omega (arith, scan_most good (length vs) 0)))

-- a place that it found is that one, and it found none where the scan ran to the end
pub stopped_some : (at many : ℕ) {k : ℕ} → stopped at many ≡ Some k → (k ≡ at) × (at < many)
stopped_some at many {k} e = go (ltb at many) refl e
  where
    go : (b : Bool) → ltb at many ≡ b → pick b (Some at) None ≡ Some k → (k ≡ at) × (at < many)
    go true t q = (ap (λ (o : Option ℕ). unwrap_or o 0) (sym q), ltb-true at many t)
    go false t q = absurd (none-some k q)

pub found_some : (vs ws : List ℕ) {k : ℕ} → first_bad_of (λ i. eqb (at vs i) (at ws i)) (length vs) ≡ Some k → (k ≡ first_changed vs ws) × (k < length vs)
unfolding first_changed
found_some vs ws e =
    let r = stopped_some (scan (λ i. eqb (at vs i) (at ws i)) (length vs) 0) (length vs) (sym (search_scan (λ i. eqb (at vs i) (at ws i)) (length vs)) ∙ e) in
    (r.0, omega (arith, r.0, r.1))

pub found_none : (vs ws : List ℕ) → first_bad_of (λ i. eqb (at vs i) (at ws i)) (length vs) ≡ None → length vs ≤ first_changed vs ws
unfolding first_changed
found_none vs ws e = stopped_none (scan (λ i. eqb (at vs i) (at ws i)) (length vs) 0) (length vs) (sym (search_scan (λ i. eqb (at vs i) (at ws i)) (length vs)) ∙ e)

-- a block off the front of the rows from row a on is a part of the rows
module _ (vs : List ℕ) (a : ℕ) (some : a ≤ length vs) (front rest : List ℕ) (parts : drop a vs ≡ front ++ rest) where
  pub block_end : a + length front ≤ length vs
  block_end = omega (arith, some, length-drop a vs, ap length parts, length-append front rest)

  pub block_is : front ≡ mid_of a (a + length front - a) vs
  block_is = let e : a + length front - a ≡ length front = omega arith in rw (e, parts) (sym (take_at front rest (length front) refl))

  pub rest_is : rest ≡ drop (a + length front) vs
  rest_is = sym (sym (drop-drop (length front) a vs) ∙ ap (drop (length front)) parts ∙ drop_at front rest (length front) refl)

-- a row of a part of a list is a row of the list
pub mid_at : (vs : List ℕ) (a e i : ℕ) → i < e - a → at (mid_of a (e - a) vs) i ≡ at vs (a + i)
mid_at vs a e i l = get_or-take (e - a) (drop a vs) i 0 l ∙ get_or-drop a vs i 0

-- parts that fit rows fit a part of them
pub mid_fits : (f : ℕ → ℕ) (from : ℕ) (vs : List ℕ) → PartsFit f from vs → (a e : ℕ) → e ≤ length vs → PartsFit f (from + a) (mid_of a (e - a) vs)
mid_fits f from vs fit a e l =
    record {
      room = record { most = omega (arith, mid_len a e vs l, fit.room.most); room = λ i h. roomy i (omega (arith, mid_len a e vs l)) };
      least = λ i h. fits i (omega (arith, mid_len a e vs l));
    }
  where
    roomy : (i : ℕ) → i < e - a → at (mid_of a (e - a) vs) i ≤ 1000000000000000000
    roomy i h = rw (mid_at vs a e i h) (fit.room.room (a + i) (omega arith))

    fits : (i : ℕ) → i < e - a → f (from + a + 1 + i) ≤ at (mid_of a (e - a) vs) i
    fits i h = let d : from + a + 1 + i ≡ from + 1 + (a + i) = omega arith in rw (mid_at vs a e i h, d) (fit.least (a + i) (omega arith))

-- The invariant of a loop that writes the new rows over those found, before row i (from 0): the rows before it are new, the others are as they were. Row k is the first of all
pub record Swapping (f g : ℕ → ℕ) (k : ℕ) (first rows : List ℕ) (i : ℕ) : Type 0 where
  pub so_far : i ≤ length first
  pub written : rows ≡ swapped f g k (take i first) ++ drop i first

module _ (f g : ℕ → ℕ) (k : ℕ) (first : List ℕ) where
  -- where the loop begins
  pub swapping_start : Swapping f g k first first 0
  unfolding swapped
  swapping_start = record { so_far = omega arith; written = refl }

  module _ {rows : List ℕ} {i : ℕ} (so : Swapping f g k first rows i) where
    front_length : length (swapped f g k (take i first)) ≡ i
    front_length = swapped_length f g k (take i first) ∙ length-take-le i first so.so_far

    front_is : take i rows ≡ swapped f g k (take i first)
    front_is = ap (take i) so.written ∙ take_at (swapped f g k (take i first)) (drop i first) i front_length

    due_is : drop i rows ≡ drop i first
    due_is = ap (drop i) so.written ∙ drop_at (swapped f g k (take i first)) (drop i first) i front_length

    -- as many rows as there were
    pub swapping_long : length rows ≡ length first
    swapping_long = ap length so.written ∙ length-append (swapped f g k (take i first)) (drop i first) ∙ omega (arith, front_length, length-drop i first, so.so_far)

    -- a block that is due is as it was
    pub swapping_due : (e : ℕ) → mid_of i (e - i) rows ≡ mid_of i (e - i) first
    swapping_due e = ap (take (e - i)) due_is

    -- one block more
    pub swapping_turn : (e : ℕ) (ys : List ℕ) → i ≤ e → e ≤ length first → ys ≡ swapped f g (k + i) (mid_of i (e - i) rows) → Swapping f g k first (put_mid i (e - i) rows ys) e
    swapping_turn e ys lo hi q =
        record {
          so_far = hi;
          written = rw (front_is, due_is, q, swapping_due e, drop-drop (e - i) i first, whole)
              (sym (append_assoc (swapped f g k (take i first)) (swapped f g (k + i) (mid_of i (e - i) first)) (drop e first)) ∙ ap (λ (l : List ℕ). l ++ drop e first) (sym joined));
        }
      where
        whole : i + (e - i) ≡ e
        whole = omega arith

        joined : swapped f g k (take e first) ≡ swapped f g k (take i first) ++ swapped f g (k + i) (mid_of i (e - i) first)
        joined =
            ap (λ (z : ℕ). swapped f g k (take z first)) (sym whole)
            ∙ ap (swapped f g k) (take-add i (e - i) first)
            ∙ swapped_append f g k (take i first) (mid_of i (e - i) first)
            ∙ ap (λ (z : ℕ). swapped f g k (take i first) ++ swapped f g (k + z) (mid_of i (e - i) first)) (length-take-le i first so.so_far)

    -- all rows are new when none is due
    pub swapping_end : length first ≤ i → rows ≡ swapped f g k first
    swapping_end l =
        so.written
        ∙ ap (λ (z : List ℕ). swapped f g k (take i first) ++ z) (drop_none first i l)
        ∙ append-nil (swapped f g k (take i first))
        ∙ ap (swapped f g k) (take_all i first l)

-- The invariant of a loop that looks for the first changed row, before row i (from 0): no row before it is changed
pub record Unchanged (f g : ℕ → ℕ) (vs : List ℕ) (i : ℕ) : Type 0 where
  pub so_far : i ≤ length vs
  pub each : (j : ℕ) → j < i → eqb (at vs j) (at (swapped f g 1 vs) j) ≡ true

module _ (f g : ℕ → ℕ) (vs : List ℕ) where
  -- where the loop begins
  pub unchanged_start : Unchanged f g vs 0
  unchanged_start = record { so_far = omega arith; each = λ j l. absurd (omega arith) }

  -- the new rows of a block
  abbrev block : ℕ → ℕ → List ℕ
  block a e = swapped f g (a + 1) (mid_of a (e - a) vs)

  -- a row of a block is changed where it is changed among all rows
  block_row : (a e j : ℕ) → e ≤ length vs → j < e - a → eqb (at (mid_of a (e - a) vs) j) (at (block a e) j) ≡ eqb (at vs (a + j)) (at (swapped f g 1 vs) (a + j))
  block_row a e j l h =
      let d : a + 1 + j ≡ 1 + (a + j) = omega arith in
      rw (
        swapped_at f g (a + 1) (mid_of a (e - a) vs) j (omega (arith, mid_len a e vs l)),
        swapped_at f g 1 vs (a + j) (omega arith),
        mid_at vs a e j h,
        d,
      )

  module _ {a : ℕ} (so : Unchanged f g vs a) (e : ℕ) (l : e ≤ length vs) (n : ℕ) (is : n ≡ first_changed (mid_of a (e - a) vs) (block a e)) where
    -- no row before the one found in a block is changed
    before_found : n ≤ e - a → Unchanged f g vs (a + n)
    unfolding first_changed
    before_found m = record { so_far = omega (arith, so.so_far); each = λ j h. ⊎_elim (so.each j) (λ w. after j w h) (below_or_not j a) }
      where
        after : (j : ℕ) → a ≤ j → j < a + n → eqb (at vs j) (at (swapped f g 1 vs) j) ≡ true
        after j lo hi =
            let d : a + (j - a) ≡ j = omega arith in
            ap (λ (z : ℕ). eqb (at vs z) (at (swapped f g 1 vs) z)) (sym d)
            ∙ sym (block_row a e (j - a) l (omega arith))
            ∙ scan_before (λ i. eqb (at (mid_of a (e - a) vs) i) (at (block a e) i)) (length (mid_of a (e - a) vs)) 0 (j - a) (omega arith) (omega (arith, is))

    -- a block with no changed row is passed
    pub unchanged_turn : a ≤ e → e - a ≤ n → Unchanged f g vs e
    unfolding first_changed
    unchanged_turn lo h =
        let most = scan_most (λ i. eqb (at (mid_of a (e - a) vs) i) (at (block a e) i)) (length (mid_of a (e - a) vs)) 0 in
        let whole : a + n ≡ e = omega (arith, is, most, mid_len a e vs l) in
        subst (λ (z : ℕ). Unchanged f g vs z) whole (before_found (omega (arith, whole)))

    -- the changed row found in a block is the first of all
    pub unchanged_stop : n < e - a → a + n ≡ first_changed vs (swapped f g 1 vs)
    unfolding first_changed
    unchanged_stop h =
        let found = before_found (omega arith) in
        sym (scan_is (λ i. eqb (at vs i) (at (swapped f g 1 vs) i)) (length vs) (a + n) found.so_far found.each (λ w. here))
      where
        here : eqb (at vs (a + n)) (at (swapped f g 1 vs) (a + n)) ≡ false
        here =
            sym (block_row a e n l h)
            ∙ ap (λ (z : ℕ). eqb (at (mid_of a (e - a) vs) z) (at (block a e) z)) is
            ∙ scan_bad (λ i. eqb (at (mid_of a (e - a) vs) i) (at (block a e) i)) (length (mid_of a (e - a) vs)) 0 (omega (arith, is, mid_len a e vs l))

  -- no row is changed when none is left
  pub unchanged_end : {a : ℕ} → Unchanged f g vs a → length vs ≤ a → length vs ≡ first_changed vs (swapped f g 1 vs)
  unfolding first_changed
  unchanged_end {a} so l =
      sym (scan_is (λ i. eqb (at vs i) (at (swapped f g 1 vs) i)) (length vs) (length vs) (omega arith) (λ j h. so.each j (omega arith)) (λ h. absurd (omega arith)))

-- a block off the front of the rows that are still due, held against its new rows
module _ (f g : ℕ → ℕ) (vs : List ℕ) {a : ℕ} (so : Unchanged f g vs a) (front rest : List ℕ) (parts : drop a vs ≡ front ++ rest) where
  -- its parts fit
  pub front_fits : PartsFit f 0 vs → PartsFit f a front
  front_fits fit =
      let from : 0 + a ≡ a = omega arith in
      subst (λ (l : List ℕ). PartsFit f a l) (sym (block_is vs a so.so_far front rest parts))
      (subst (λ (z : ℕ). PartsFit f z (mid_of a (a + length front - a) vs)) from (mid_fits f 0 vs fit a (a + length front) (block_end vs a so.so_far front rest parts)))

  module _ (new : List ℕ) (is : new ≡ swapped f g (a + 1) front) where
    first_is : first_changed front new ≡ first_changed (mid_of a (a + length front - a) vs) (swapped f g (a + 1) (mid_of a (a + length front - a) vs))
    first_is = ap (first_changed front) is ∙ ap (λ (l : List ℕ). first_changed l (swapped f g (a + 1) l)) (block_is vs a so.so_far front rest parts)

    -- the changed row found in it is the first of all
    pub front_stop : {k : ℕ} → first_bad_of (λ i. eqb (at front i) (at new i)) (length front) ≡ Some k → a + k ≡ first_changed vs (swapped f g 1 vs)
    front_stop {k} e =
        let found = found_some front new e in
        unchanged_stop f g vs so (a + length front) (block_end vs a so.so_far front rest parts) k (found.0 ∙ first_is) (omega (arith, found.1))

    -- it is passed where none is found
    pub front_turn : first_bad_of (λ i. eqb (at front i) (at new i)) (length front) ≡ None → Unchanged f g vs (a + length front)
    front_turn e =
        unchanged_turn f g vs so (a + length front) (block_end vs a so.so_far front rest parts) (first_changed front new) first_is (omega arith) (omega (arith, found_none front new e))
