-- The areas of the altered list: those of the list, less the old record's, with the fresh one's. Assumes nothing.
use mathlib.Core.Path.{◌≡◌}
use mathlib.Core.List.{List}
use Prim.Native.Nat.{ℕ, ◌+◌, ◌-◌, ◌≤◌}
use native.Mathlib.Omega.{arith}
use Rattle.laws.proofs.Sums.{sum_term, sum_most}
use Rattle.curve.specs.CurveNumbers as Curve
use Rattle.curve.specs.CurveNumbers.{class_area, classes_of}
use Rattle.curve.proofs.Mean.{class_to, area_most}
use Rattle.subarea.specs.Records.{records_in, record_at, patches, area_of}
use Rattle.checks.specs.Order.{all_area}
use Rattle.study.specs.Study.{class_total, classes_all}
use Rattle.subarea.proofs.Subareas.{patches_fit}
use Rattle.study.proofs.Totals.{class_sum}
use Rattle.alter.specs.Altering.{altered, old_record}
use Rattle.alter.specs.Needs.{classes_swapped, PlaceOk, SwapOk, GroundOk}
use Rattle.alter.proofs.Places.{sum_altered}

-- a record's area in a class
abbrev class_in : ℕ → List ℕ → ℕ
class_in class r = class_area (patches r) (Curve.patches_in (patches r)) class

module _ (s : List ℕ) (k : ℕ) (r : List ℕ) (ok : PlaceOk s k r) where
  old_in : (class : ℕ) → class_in class (old_record s k) ≤ class_total s class
  old_in class = sum_term (λ i. class_in class (record_at s i)) (k - 1) (records_in s) (omega (arith, ok.listed, ok.last))

  class_altered : (class : ℕ) → class_total s class - class_in class (old_record s k) + class_in class r ≡ class_total (altered s k r) class
  class_altered class = omega (arith, sum_altered s k r ok (class_in class), old_in class)

  pub classes_altered : classes_swapped (classes_all s) (classes_of (patches (old_record s k))) (classes_of (patches r)) ≡ classes_all (altered s k r)
  classes_altered = rw (class_altered 1, class_altered 2, class_altered 3, class_altered 4)

-- they can be taken away and added
pub swap_ok : (s : List ℕ) (k : ℕ) (r : List ℕ) → GroundOk s k r → SwapOk (classes_all s) (classes_of (patches (old_record s k))) (classes_of (patches r))
swap_ok s k r ok =
    let sums : (class : ℕ) → class_total s class ≤ 100000000 = λ class. class_sum s ok.place.records ok.patched class (records_in s) (omega arith) in
    let fit = patches_fit r ok.fresh in
    let own : (class : ℕ) → class_in class r ≤ 1600000 = λ class. omega (arith, fit.most, class_to (patches r) fit class (Curve.patches_in (patches r)) (omega arith)) in
    record {
      surfaces_least = old_in s k r ok.place 1;
      districts_least = old_in s k r ok.place 2;
      lots_least = old_in s k r ok.place 3;
      rural_least = old_in s k r ok.place 4;
      surfaces_most = omega (arith, sums 1, own 1);
      districts_most = omega (arith, sums 2, own 2);
      lots_most = omega (arith, sums 3, own 3);
      rural_most = omega (arith, sums 4, own 4);
    }

-- and so can the areas
pub area_room : (s : List ℕ) (k : ℕ) (r : List ℕ) → GroundOk s k r → all_area s + area_of r ≤ 100000000
area_room s k r ok =
    omega (
      arith,
      ok.place.records.most,
      sum_most (λ i. area_of (record_at s i)) 1600000 (records_in s) (λ i l. area_most (patches (record_at s i)) (patches_fit (record_at s i) (ok.patched.each i l))),
      area_most (patches r) (patches_fit r ok.fresh),
    )
