-- The inflow rows, subarea by subarea. Assumes nothing.
use mathlib.Core.Path.{◌≡◌}
use mathlib.Core.List.{List}
use Prim.Native.Nat.{ℕ, ◌*◌, ◌≤◌}
use native.Mathlib.Omega.{arith}
use Rattle.laws.specs.Sum.{sum_to}
use Rattle.laws.specs.Limits.{most_rows}
use Rattle.laws.specs.Listed.{rows_from}
use Rattle.curve.proofs.Mean.{composite_ok}
use Rattle.hydrograph.specs.InflowRows.{part}
use Rattle.hydrograph.specs.Needs.{RainOk, RoomOk}
use Rattle.hydrograph.proofs.Released.{volume_most}
use Rattle.hydrograph.proofs.Room.{parts_room}
use Rattle.subarea.specs.declared.Setup.{Setup}
use Rattle.subarea.specs.Records.{records_in, record_at, area_of, curve_tenths, peak_of, patches}
use Rattle.subarea.proofs.Subareas.{patches_fit}
use Rattle.checks.specs.Needs.{RecordOk, ListOk}
use Rattle.textbook.specs.Textbook.{part_laid_of}
use Rattle.textbook.proofs.Laid.{part_agrees}

-- a record's part of a row is what the first engine's definition says
pub record_agrees : (g : Setup) (rain r : List ℕ) (k : ℕ) → RainOk rain → RecordOk g r → part_laid_of g rain r k ≡ part (curve_tenths r) (area_of r) (peak_of g r) g.step rain k
record_agrees g rain r k raining ok =
    part_agrees (curve_tenths r) rain (composite_ok (patches r) (patches_fit r ok.patched)) raining (peak_of g r) g.step (area_of r) k

-- so it is at most 1,089,000 times its area
part_small : (g : Setup) (rain r : List ℕ) (k : ℕ) → RainOk rain → RecordOk g r → part_laid_of g rain r k ≤ 1089000 * area_of r
unfolding part
part_small g rain r k raining ok =
    omega (
      arith,
      record_agrees g rain r k raining ok,
      volume_most (curve_tenths r) rain (composite_ok (patches r) (patches_fit r ok.patched)) raining g.step (peak_of g r) ok.timed (area_of r) k,
    )

module _ (g : Setup) (rain s : List ℕ) where
  -- the rows with the parts of the first i subareas
  abbrev pub textbook_to : ℕ → ℕ → ℕ
  textbook_to i k = sum_to (λ j. part_laid_of g rain (record_at s j) k) i

  pub textbook_room : (raining : RainOk rain) (ok : ListOk g s) (i m : ℕ) → i ≤ records_in s → m ≤ most_rows → RoomOk (rows_from (textbook_to i) 1 m)
  textbook_room raining ok i m l few =
      parts_room (records_in s) (λ j. area_of (record_at s j)) (λ j. part_laid_of g rain (record_at s j)) ok.area (λ j k h. part_small g rain (record_at s j) k raining (ok.each j h)) i m l few
