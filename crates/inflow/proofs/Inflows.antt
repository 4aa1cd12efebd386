-- The inflow rows, subarea by subarea, from any row on. Assumes nothing.
use mathlib.Core.Path.{◌≡◌, refl, sym, ap, ◌∙◌}
use mathlib.Core.List.{List}
use Prim.Native.Nat.{ℕ, zero, suc, ◌+◌, ◌*◌, ◌≤◌, ◌<◌}
use native.Mathlib.Omega.{arith}
use lib.ListN.{length}
use Rattle.laws.specs.Sum.{sum_to}
use Rattle.laws.specs.Limits.{most_rows, most_area, most_inflow}
use Rattle.laws.specs.Listed.{plus, rows_from}
use Rattle.laws.proofs.Sums.{sum_more, sum_term}
use Rattle.laws.proofs.Listed.{rows_length, rows_at, rows_same, plus_rows}
use Rattle.curve.proofs.Mean.{composite_ok}
use Rattle.hydrograph.specs.InflowRows.{part}
use Rattle.hydrograph.specs.Needs.{RainOk, RoomOk}
use Rattle.hydrograph.proofs.Released.{volume_most}
use Rattle.hydrograph.proofs.Room.{parts_most}
use Rattle.rows.specs.Needs.{InflowOk}
use Rattle.sums.specs.Needs.{NumbersOk}
use Rattle.subarea.specs.declared.Setup.{Setup}
use Rattle.subarea.specs.Records.{records_in, record_at, area_of, curve_tenths, peak_of, patches}
use Rattle.subarea.proofs.Subareas.{patches_fit}
use Rattle.checks.specs.Needs.{RecordOk, ListOk}
use Rattle.inflow.specs.Inflow.{part_of, inflow_at, inflow_rows}
use Rattle.inflow.specs.Needs.{numbers_of}

-- a record's numbers are ones that parts can be worked out of
pub numbers_ok : (g : Setup) (r : List ℕ) → RecordOk g r → area_of r ≤ most_area → NumbersOk g.step (numbers_of g r)
numbers_ok g r ok area =
    record { curved = composite_ok (patches r) (patches_fit r ok.patched); area_most = area; timed = ok.timed; whole = refl }

-- a record's part of a row is at most 1,089,000 times its area
pub part_most : (g : Setup) (rain r : List ℕ) (k : ℕ) → RainOk rain → RecordOk g r → part_of g rain r k ≤ 1089000 * area_of r
unfolding part
part_most g rain r k raining ok =
    omega (arith, volume_most (curve_tenths r) rain (composite_ok (patches r) (patches_fit r ok.patched)) raining g.step (peak_of g r) ok.timed (area_of r) k)

-- zeros are the same from any row on
zeros_same : (a b n : ℕ) → rows_from (λ (k : ℕ). 0) a n ≡ rows_from (λ (k : ℕ). 0) b n
unfolding rows_from
zeros_same a b zero = refl
zeros_same a b (suc n) = rw (zeros_same (a + 1) (b + 1) n)

module _ (g : Setup) (s : List ℕ) (ok : ListOk g s) where
  -- no subarea is larger than all of them may be
  pub own_area : (i : ℕ) → i < records_in s → area_of (record_at s i) ≤ most_area
  own_area i l = omega (arith, ok.area, sum_term (λ k. area_of (record_at s k)) i (records_in s) l)

  -- each has numbers that parts can be worked out of
  pub own_numbers : (i : ℕ) → i < records_in s → NumbersOk g.step (numbers_of g (record_at s i))
  own_numbers i l = numbers_ok g (record_at s i) (ok.each i l) (own_area i l)

module _ (g : Setup) (rain s : List ℕ) where
  -- the rows with the parts of the first i subareas
  abbrev pub inflow_to : ℕ → ℕ → ℕ
  inflow_to i k = sum_to (λ j. part_of g rain (record_at s j) k) i

  module _ (raining : RainOk rain) (ok : ListOk g s) where
    -- each part is small, so
    small : (j k : ℕ) → j < records_in s → part_of g rain (record_at s j) k ≤ 1089000 * area_of (record_at s j)
    small j k l = part_most g rain (record_at s j) k raining (ok.each j l)

    -- no row is above 217,800,000,000
    pub inflow_most : (i k : ℕ) → i ≤ records_in s → inflow_to i k ≤ most_inflow
    inflow_most i k l = parts_most (records_in s) (λ j. area_of (record_at s j)) (λ j. part_of g rain (record_at s j)) ok.area small i k l

    -- so rows that have some parts have room for one more
    pub inflow_room : (first i m : ℕ) → i ≤ records_in s → m ≤ most_rows → RoomOk (rows_from (inflow_to i) first m)
    inflow_room first i m l few =
        record {
          most = omega (arith, rows_length (inflow_to i) first m);
          room = λ j h. rw (rows_at (inflow_to i) first m j (omega (arith, rows_length (inflow_to i) first m))) (omega (arith, inflow_most i (first + j) l));
        }

    -- and rows that have all leave room for a pond's sum
    pub block_ok : (first m : ℕ) → InflowOk (rows_from (inflow_at g rain s) first m)
    block_ok first m =
        record { small = λ j h. rw (rows_at (inflow_at g rain s) first m j (omega (arith, rows_length (inflow_at g rain s) first m))) (omega (arith, inflow_most (records_in s) (first + j) (omega arith))) }

    pub inflow_ok : (m : ℕ) → InflowOk (inflow_rows g rain s m)
    inflow_ok m = block_ok 1 m

  -- the invariant of a loop that adds the subareas' parts to m rows of zeros, before subarea i (from 0)
  pub record PartsIn (first m : ℕ) (rows : List ℕ) (i : ℕ) : Type 0 where
    pub so_far : i ≤ records_in s
    pub made : rows ≡ rows_from (inflow_to i) first m

  module _ (first m : ℕ) where
    -- where the loop begins
    pub parts_start : {rows : List ℕ} → rows ≡ rows_from (λ (k : ℕ). 0) 1 m → PartsIn first m rows 0
    unfolding sum_to
    parts_start e = record { so_far = omega arith; made = e ∙ zeros_same 1 first m }

    module _ {rows : List ℕ} {i : ℕ} (so : PartsIn first m rows i) where
      -- as many rows as there were
      pub parts_long : length rows ≡ m
      parts_long = ap length so.made ∙ rows_length (inflow_to i) first m

      -- with room for one part more
      pub parts_room : RainOk rain → ListOk g s → m ≤ most_rows → RoomOk rows
      parts_room raining ok few = rw so.made (inflow_room raining ok first i m so.so_far few)

      -- one subarea more
      pub parts_turn : {new : List ℕ} → i < records_in s → new ≡ plus (part_of g rain (record_at s i)) first rows → PartsIn first m new (i + 1)
      parts_turn l e =
          record {
            so_far = omega arith;
            made = e
                ∙ ap (plus (part_of g rain (record_at s i)) first) so.made
                ∙ plus_rows (part_of g rain (record_at s i)) (inflow_to i) first m
                ∙ rows_same (λ k. inflow_to i k + part_of g rain (record_at s i) k) (inflow_to (i + 1)) first m (λ k. sym (sum_more (λ j. part_of g rain (record_at s j) k) i));
          }

      -- all of them
      pub parts_end : records_in s ≤ i → rows ≡ rows_from (inflow_at g rain s) first m
      parts_end l = let all : i ≡ records_in s = omega (arith, so.so_far) in so.made ∙ ap (λ (z : ℕ). rows_from (inflow_to z) first m) all
