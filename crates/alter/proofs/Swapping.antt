-- The new inflow rows: the old record's part of each row taken away, the fresh one's added. Assumes nothing.
use mathlib.Core.Path.{◌≡◌, refl, sym, ap, ◌∙◌}
use mathlib.Core.List.{List, [], ◌∷◌, ◌++◌}
use Prim.Native.Nat.{ℕ, zero, suc, ◌+◌, ◌-◌, ◌≤◌, ◌<◌}
use native.Mathlib.Nat.{le_of_suc-le-suc}
use native.Mathlib.Omega.{arith}
use lib.ListN.{length}
use lib.Seq.{ext_get_or}
use Rattle.laws.specs.Filled.{Filled}
use Rattle.laws.proofs.Sums.{sum_term}
use Rattle.laws.specs.Listed.{plus, rows_from}
use Rattle.laws.proofs.Listed.{rows_length, rows_at, plus_length, plus_at}
use Rattle.hydrograph.specs.Needs.{RoomOk}
use Rattle.rows.specs.Figures.{at}
use Rattle.checks.specs.Site.{Site}
use Rattle.subarea.specs.Records.{records_in, record_at}
use Rattle.inflow.specs.Inflow.{part_of, inflow_at, inflow_rows}
use Rattle.alter.specs.Altering.{altered, old_part, fresh_part, swapped, new_inflow}
use Rattle.alter.specs.Needs.{PlaceOk, PartsOk, PartsFit}
use Rattle.alter.proofs.Places.{sum_altered}

module _ (f g : ℕ → ℕ) where
  -- as many rows
  pub swapped_length : (k : ℕ) (vs : List ℕ) → length (swapped f g k vs) ≡ length vs
  unfolding swapped
  swapped_length k [] = refl
  swapped_length k (v ∷ vs) = ap suc (swapped_length (k + 1) vs)

  -- each where it belongs
  pub swapped_at : (k : ℕ) (vs : List ℕ) (i : ℕ) → i < length vs → at (swapped f g k vs) i ≡ at vs i - f (k + i) + g (k + i)
  unfolding swapped
  swapped_at k [] i l = absurd (omega arith)
  swapped_at k (v ∷ vs) zero l = let e : k ≡ k + 0 = omega arith in ap (λ (z : ℕ). v - f z + g z) e
  swapped_at k (v ∷ vs) (suc i) l =
      let e : k + 1 + i ≡ k + suc i = omega arith in
      swapped_at (k + 1) vs i (le_of_suc-le-suc l) ∙ ap (λ (z : ℕ). at vs i - f z + g z) e

  -- of rows that follow each other
  pub swapped_append : (k : ℕ) (xs ys : List ℕ) → swapped f g k (xs ++ ys) ≡ swapped f g k xs ++ swapped f g (k + length xs) ys
  unfolding swapped
  swapped_append k [] ys = let e : k ≡ k + 0 = omega arith in ap (λ (z : ℕ). swapped f g z ys) e
  swapped_append k (x ∷ xs) ys =
      let e : k + 1 + length xs ≡ k + suc (length xs) = omega arith in
      ap (λ (l : List ℕ). (x - f k + g k) ∷ l) (swapped_append (k + 1) xs ys ∙ ap (λ (z : ℕ). swapped f g (k + 1) xs ++ swapped f g z ys) e)

-- rows of zeros leave room for a part
pub zeros_room : (n : ℕ) → n ≤ 2000 → RoomOk (rows_from (λ (k : ℕ). 0) 1 n)
zeros_room n few =
    let long = rows_length (λ (k : ℕ). 0) 1 n in
    record { most = omega (arith, long, few); room = λ i l. rw (rows_at (λ (k : ℕ). 0) 1 n i (omega (arith, long, l))) (omega arith) }

-- parts added to rows of zeros are the parts
pub parts_at : (f : ℕ → ℕ) (k n i : ℕ) → i < n → at (plus f k (rows_from (λ (j : ℕ). 0) 1 n)) i ≡ f (k + i)
parts_at f k n i l =
    omega (arith, plus_at f k (rows_from (λ (j : ℕ). 0) 1 n) i (omega (arith, rows_length (λ (j : ℕ). 0) 1 n)), rows_at (λ (j : ℕ). 0) 1 n i l)

-- they can be taken from rows that they fit
pub away_ok : (f : ℕ → ℕ) (from n : ℕ) (vs : List ℕ) → PartsFit f from vs → n ≡ length vs → PartsOk vs (plus f (from + 1) (rows_from (λ (j : ℕ). 0) 1 n))
away_ok f from n vs fit long =
    record {
      long = plus_length f (from + 1) (rows_from (λ (j : ℕ). 0) 1 n) ∙ rows_length (λ (j : ℕ). 0) 1 n ∙ long;
      room = fit.room;
      least = λ i l. rw (parts_at f (from + 1) n i (omega (arith, long))) (fit.least i l);
    }

-- rows that have the parts taken away leave room
pub less_room : (vs fs rows : List ℕ) → PartsOk vs fs → length rows ≡ length vs → Filled (λ (i : ℕ). at vs i - at fs i) (length vs) rows → RoomOk rows
less_room vs fs rows ok long so =
    record {
      most = omega (arith, long, ok.room.most);
      room = λ i l. rw (so.each i (omega (arith, long))) (omega (arith, ok.room.room i (omega (arith, long))));
    }

-- rows that have the parts f taken away, with the parts g added
pub swap_filled : (f g : ℕ → ℕ) (k n : ℕ) (vs rows : List ℕ) → n ≡ length vs → length rows ≡ length vs
    → Filled (λ (i : ℕ). at vs i - at (plus f k (rows_from (λ (j : ℕ). 0) 1 n)) i) (length vs) rows → plus g k rows ≡ swapped f g k vs
swap_filled f g k n vs rows own long so =
    ext_get_or 0 (plus g k rows) (swapped f g k vs) (plus_length g k rows ∙ long ∙ sym (swapped_length f g k vs))
    (λ i l. each i (omega (arith, plus_length g k rows, long)))
  where
    each : (i : ℕ) → i < length vs → at (plus g k rows) i ≡ at (swapped f g k vs) i
    each i l =
        plus_at g k rows i (omega (arith, long))
        ∙ ap (λ (z : ℕ). z + g (k + i)) (so.each i l ∙ ap (λ (z : ℕ). at vs i - z) (parts_at f k n i (omega (arith, own))))
        ∙ sym (swapped_at f g k vs i l)

module _ (x : Site) (k : ℕ) (r : List ℕ) (m : ℕ) (ok : PlaceOk x.subareas k r) where
  abbrev old : ℕ → ℕ
  old = inflow_at x.setup x.rain x.subareas

  abbrev new : ℕ → ℕ
  new = inflow_at x.setup x.rain (altered x.subareas k r)

  -- the old record's part is in a row of the list
  pub part_in : (j : ℕ) → old_part x k j ≤ inflow_at x.setup x.rain x.subareas j
  part_in j = sum_term (λ i. part_of x.setup x.rain (record_at x.subareas i) j) (k - 1) (records_in x.subareas) (omega (arith, ok.listed, ok.last))

  -- the new rows of the list's rows are those of the altered list
  pub new_is : new_inflow x k r (inflow_rows x.setup x.rain x.subareas m) ≡ inflow_rows x.setup x.rain (altered x.subareas k r) m
  new_is =
      let long = swapped_length (old_part x k) (fresh_part x r) 1 (rows_from old 1 m) ∙ rows_length old 1 m in
      ext_get_or 0 (new_inflow x k r (rows_from old 1 m)) (rows_from new 1 m) (long ∙ sym (rows_length new 1 m)) (λ i l. each i (omega (arith, long)))
    where
      each : (i : ℕ) → i < m → at (new_inflow x k r (rows_from old 1 m)) i ≡ at (rows_from new 1 m) i
      each i l =
          omega (
            arith,
            swapped_at (old_part x k) (fresh_part x r) 1 (rows_from old 1 m) i (omega (arith, rows_length old 1 m)),
            rows_at old 1 m i l,
            rows_at new 1 m i l,
            sum_altered x.subareas k r ok (λ z. part_of x.setup x.rain z (1 + i)),
            part_in (1 + i),
          )
