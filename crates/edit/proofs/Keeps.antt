-- edit-keeps: rows before the first changed row are as they were, and all rows where none changed; of any rows lent. Assumes nothing.
use mathlib.Core.Path.{◌≡◌, refl, sym, ap, ◌∙◌}
use mathlib.Core.Bool.{Bool, true, false}
use mathlib.Core.List.{List, ◌++◌, append-nil, map}
use Prim.Native.Nat.{ℕ, ◌+◌, ◌<◌, ◌≤◌}
use native.Mathlib.Omega.{arith}
use borrow.Author.Tests.{ltb-true, ltb-false}
use lib.Dec.{ltb}
use lib.ListN.{length, take, drop}
use lib.Seq.{take_at, length-take-le, take_all}
use Rattle.std.specs.Prelude.{Ok, Err, None, Some}
use Rattle.std.proofs.lemmas.Option.{none-some}
use Rattle.laws.specs.Pick.{pick}
use Rattle.laws.proofs.Fill.{drop_none}
use Rattle.pond.specs.declared.State.{State}
use Rattle.rows.specs.Routing.{states, state_before, outflow_of, storage_of}
use Rattle.rows.specs.Figures.{at}
use Rattle.checks.specs.Site.{Site, Rows}
use Rattle.subarea.specs.Records.{half_of}
use Rattle.refusals.specs.Refusals.{Line, none, answer, after}
use Rattle.alter.specs.Altering.{old_part, fresh_part, new_inflow_of, first_changed, changed_at, changed_row}
use Rattle.alter.proofs.Swapping.{swapped_length}
use Rattle.rewrite.specs.declared.Edited.{Edited}
use Rattle.rewrite.specs.Rewriting.{edited_of}
use Rattle.edit.specs.Edit.{EditAnswer, edit_refusal, new_rows, edit_done, edit_answer, edit_rows, edit_values_in}
use Rattle.edit.specs.Standing.{first_rows}
use Rattle.rewrite.proofs.Changed.{rows_equal, changed_most, changed_before, changed_here, changed_front, changed_none}
use Rattle.edit.proofs.Order.{accepted}

-- the number that tells a row, from 1, or none
at_row : (a m i : ℕ) → changed_at a m ≡ Some (i + 1) → (a ≡ i) × (a < m)
at_row a m i e = go (ltb a m) refl e
  where
    go : (b : Bool) → ltb a m ≡ b → pick b (Some (a + 1)) None ≡ Some (i + 1) → (a ≡ i) × (a < m)
    go true t q = let here : a + 1 ≡ i + 1 = cc in (omega (arith, here), ltb-true a m t)
    go false t q = absurd (none-some (i + 1) q)

at_none : (a m : ℕ) → changed_at a m ≡ None → m ≤ a
at_none a m e = go (ltb a m) refl e
  where
    go : (b : Bool) → ltb a m ≡ b → pick b (Some (a + 1)) None ≡ None → m ≤ a
    go true t q = absurd (none-some (a + 1) (sym q))
    go false t q = ltb-false a m t

before_row : (a m c i : ℕ) → changed_at a m ≡ Some c → i + 1 < c → i < a
before_row a m c i e l = go (ltb a m) e
  where
    go : (b : Bool) → pick b (Some (a + 1)) None ≡ Some c → i < a
    go true q = let here : a + 1 ≡ c = cc in omega (arith, here, l)
    go false q = absurd (none-some c q)

module _ (x : Site) (l : Rows) (k : ℕ) (r : List ℕ) where
  abbrev vs : List ℕ
  vs = l.inflow

  abbrev ws : List ℕ
  ws = new_inflow_of x l k r

  abbrev a : ℕ
  a = first_changed l.inflow (new_inflow_of x l k r)

  ws_long : length ws ≡ length vs
  ws_long = swapped_length (old_part x k) (fresh_part x r) 1 vs

  -- rows that are written only where nothing is refused
  either : (P : Rows → Type 0) → (edit_refusal x l k r ≡ none → P (new_rows x l k r)) → P l → P (edit_rows x l k r)
  unfolding edit_rows
  either P f q = go (edit_refusal x l k r) refl
    where
      go : (v : Line) → edit_refusal x l k r ≡ v → P (after v (new_rows x l k r) l)
      go (Ok u) e = f e
      go (Err w) e = q

  -- a column before row a
  front : (os tail : List ℕ) → length os ≡ length vs → take a (take a os ++ tail) ≡ take a os
  front os tail e = take_at (take a os) tail a (length-take-le a os (omega (arith, e, changed_most vs ws)))

  -- rows before the first changed row are as they were, in all three lists
  pub edit_keeps : first_rows (first_changed l.inflow (new_inflow_of x l k r)) (edit_rows x l k r) ≡ first_rows (first_changed l.inflow (new_inflow_of x l k r)) l
  edit_keeps =
      either (λ (n : Rows). first_rows a n ≡ first_rows a l)
      (λ e. rows_equal {a = first_rows a (new_rows x l k r)} {b = first_rows a l} (sym (changed_front vs ws ws_long)) (front l.outflow _ (accepted x l k r e).lengths.out_long) (front l.storage _ (accepted x l k r e).lengths.held_long))
      refl

  -- a column where none changed
  whole : (f : State → ℕ) (st : State) (os : List ℕ) → a ≡ length vs → length os ≡ length vs → take a os ++ map f (states (half_of x.setup) x.pond st (drop a ws)) ≡ os
  unfolding states
  whole f st os n e = rw (drop_none ws a (omega (arith, n, ws_long))) (append-nil (take a os) ∙ take_all a os (omega (arith, n, e)))

  -- none changed: no row is written
  pub edit_unchanged : first_changed l.inflow (new_inflow_of x l k r) ≡ length l.inflow → edit_rows x l k r ≡ l
  edit_unchanged n =
      let st = state_before l.outflow l.storage a in
      either (λ (z : Rows). z ≡ l)
      (λ e. rows_equal {a = new_rows x l k r} {b = l} (sym (changed_none vs ws ws_long n)) (whole outflow_of st l.outflow n (accepted x l k r e).lengths.out_long) (whole storage_of st l.storage n (accepted x l k r e).lengths.held_long))
      refl

  module _ (e : Edited) (done : edit_answer x l k r ≡ Ok e) where
    -- a done edit refuses nothing
    pub edit_done_lem : edit_refusal x l k r ≡ none
    unfolding edit_answer
    edit_done_lem = go (edit_refusal x l k r) done
      where
        go : (v : Line) → answer v (edit_done x l k r) ≡ Ok e → v ≡ none
        go (Ok u) q = refl
        go (Err w) q = cc

    -- and tells the first changed row
    pub told_row : e.changed ≡ changed_row l.inflow (new_inflow_of x l k r)
    unfolding edit_answer edited_of
    told_row = sym (ap (λ (z : EditAnswer). (edit_values_in z).changed) done) ∙ rw edit_done_lem

    -- which is the first whose inflow volume differs
    pub inflow_is : (edit_rows x l k r).inflow ≡ new_inflow_of x l k r
    unfolding edit_rows
    inflow_is = rw edit_done_lem

    pub same_before : (c i : ℕ) → e.changed ≡ Some c → i + 1 < c → at (edit_rows x l k r).inflow i ≡ at l.inflow i
    same_before c i q h = ap (λ (z : List ℕ). at z i) inflow_is ∙ sym (changed_before vs ws i (before_row a (length vs) c i (sym told_row ∙ q) h))

    pub differs_there : (i : ℕ) → e.changed ≡ Some (i + 1) → at (edit_rows x l k r).inflow i ≡ at l.inflow i → ⊥
    differs_there i c q =
        let here = at_row a (length vs) i (sym told_row ∙ c) in
        changed_here vs ws here.1 (ap (at vs) here.0 ∙ sym q ∙ ap (λ (z : List ℕ). at z i) inflow_is ∙ ap (at ws) (sym here.0))

    -- none: no row differs
    pub none_differs : e.changed ≡ None → first_changed l.inflow (new_inflow_of x l k r) ≡ length l.inflow
    none_differs c = omega (arith, at_none a (length vs) (sym told_row ∙ c), changed_most vs ws)
