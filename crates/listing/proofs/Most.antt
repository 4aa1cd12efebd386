-- No more comes than runs off. Assumes nothing.
use mathlib.Core.Path.{◌≡◌, ap, ◌∙◌}
use mathlib.Core.List.{List}
use Prim.Native.Nat.{ℕ, ◌+◌, ◌≤◌, ◌<◌}
use native.Mathlib.Omega.{arith}
use Rattle.laws.specs.Sum.{sum_to}
use Rattle.laws.specs.Listed.{rows_from}
use Rattle.laws.proofs.Sums.{sum_le, sum_same, sum_swap}
use Rattle.laws.proofs.Listed.{rows_length, rows_at}
use Rattle.curve.proofs.Mean.{composite_ok}
use Rattle.hydrograph.specs.Needs.{RainOk}
use Rattle.hydrograph.proofs.Released.{parts_sum, volume_last}
use Rattle.rows.specs.Routing.{total}
use Rattle.rows.specs.Figures.{at}
use Rattle.rows.proofs.Totals.{total_sum}
use Rattle.subarea.specs.declared.Setup.{Setup}
use Rattle.subarea.specs.Records.{records_in, record_at, area_of, curve_tenths, peak_of, patches}
use Rattle.subarea.proofs.Subareas.{patches_fit}
use Rattle.checks.specs.Needs.{ListOk}
use Rattle.inflow.specs.Inflow.{part_of, inflow_at, inflow_rows}
use Rattle.inflow.specs.Needs.{most_volume}
use Rattle.listing.specs.Needs.{most_of}

-- the inflow of rows is their sum
rows_total : (f : ℕ → ℕ) (m : ℕ) → total (rows_from f 1 m) ≡ sum_to (λ i. f (i + 1)) m
rows_total f m =
    total_sum (rows_from f 1 m)
    ∙ ap (sum_to (at (rows_from f 1 m))) (rows_length f 1 m)
    ∙ sum_same (at (rows_from f 1 m)) (λ i. f (i + 1)) m (λ i l. let e : 1 + i ≡ i + 1 = omega arith in rows_at f 1 m i l ∙ ap f e)

-- no more comes than runs off
pub inflow_all : (g : Setup) (rain s : List ℕ) (m : ℕ) → RainOk rain → ListOk g s → total (inflow_rows g rain s m) ≤ most_of rain s
inflow_all g rain s m raining ok =
    omega (
      arith,
      rows_total (inflow_at g rain s) m,
      sum_swap (λ i j. part_of g rain (record_at s j) (i + 1)) m (records_in s),
      sum_le (λ j. sum_to (λ i. part_of g rain (record_at s j) (i + 1)) m) (λ j. most_volume (curve_tenths (record_at s j)) (area_of (record_at s j)) rain) (records_in s) each,
    )
  where
    each : (j : ℕ) → j < records_in s → sum_to (λ i. part_of g rain (record_at s j) (i + 1)) m ≤ most_volume (curve_tenths (record_at s j)) (area_of (record_at s j)) rain
    each j l =
        let r = record_at s j in
        let curve = composite_ok (patches r) (patches_fit r (ok.each j l).patched) in
        omega (
          arith,
          parts_sum (curve_tenths r) rain curve raining g.step (peak_of g r) (ok.each j l).timed (area_of r) m,
          volume_last (curve_tenths r) rain curve raining g.step (peak_of g r) (ok.each j l).timed (area_of r) m,
        )
