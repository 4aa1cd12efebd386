-- The composite curve number in tenths lies between ten times the patches' numbers, the class areas sum to the area, and how large the sums can be. Assumes nothing.
use mathlib.Core.Path.{◌≡◌, sym, ◌∙◌, ap}
use mathlib.Core.Logic.{⊎_elim}
use mathlib.Core.List.{List}
use Prim.Native.Nat.{ℕ, ◌+◌, ◌*◌, ◌≤◌, ◌<◌}
use native.Mathlib.Nat.{mul-le-mul, mul-le-mul_right, le-div_iff_mul-le, div-lt_iff_lt-mul}
use native.Mathlib.Omega.{arith}
use lib.Dec.{eqb}
use mir.Val.{Fits}
use mir.Syntax.{w64}
use Rattle.laws.specs.Pick.{pick}
use Rattle.laws.specs.Sum.{sum_to}
use Rattle.laws.proofs.Tests.{by_test}
use Rattle.laws.proofs.Num.{below_or_not}
use Rattle.laws.proofs.Sums.{sum_le, sum_same, sum_add, sum_times, sum_more, sum_most, sum_least}
use Rattle.curve.specs.CurveNumbers.{class_of, patches_in, cover, soil, area, number, total_area, weighted_at, weighted, nearest, mean_tenths, composite_tenths, area_in, class_area, classes_to}
use Rattle.curve.specs.Needs.{PatchesOk, NumberOk, CurveOk, classes_plus}
use Rattle.curve.proofs.Covers.{is_surface, is_district, is_lot, is_rural}
use Rattle.curve.proofs.Table.{cover_ok}

-- a rounded mean is not below what the exact one is not below
pub nearest_least : (lo a b : ℕ) → 0 < b → lo * b ≤ a → lo ≤ nearest a b
unfolding nearest
nearest_least lo a b pos h = (le-div_iff_mul-le {k = 2 * b} (omega arith)).1 (omega (arith, h))

-- nor above what the exact one is not above
nearest_under : (hi a b : ℕ) → 0 < b → a ≤ hi * b → nearest a b < hi + 1
unfolding nearest
nearest_under hi a b pos h = (div-lt_iff_lt-mul {k = 2 * b} (omega arith)).1 (omega (arith, h))

pub nearest_most : (hi a b : ℕ) → 0 < b → a ≤ hi * b → nearest a b ≤ hi
nearest_most hi a b pos h = omega (arith, nearest_under hi a b pos h)

module _ (p : List ℕ) (ok : PatchesOk p) where
  -- the sums over the first patches
  pub area_to : (n : ℕ) → n ≤ patches_in p → sum_to (area p) n ≤ n * 200000
  area_to n l = sum_most (area p) 200000 n (λ i k. (ok.each i (omega arith)).area_most)

  pub weighted_to : (n : ℕ) → n ≤ patches_in p → sum_to (weighted_at p) n ≤ n * 19600000
  weighted_to n l =
      sum_most (weighted_at p) 19600000 n
      (λ i k. mul-le-mul (cover_ok (cover p i) (soil p i) (ok.each i (omega arith)).place).most (ok.each i (omega arith)).area_most)

  -- some area
  pub area_some : 0 < total_area p
  unfolding total_area
  area_some = omega (arith, sum_least (area p) 1 (patches_in p) (λ i k. (ok.each i k).area_least), ok.least)

  -- at most 8 patches of 200,000
  pub area_most : total_area p ≤ 1600000
  unfolding total_area
  area_most = omega (arith, area_to (patches_in p) (omega arith), ok.most)

  -- the composite lies between any two numbers that all the patches' numbers lie between, so between the least and the greatest of them: in tenths, between ten times each
  pub composite_between : (lo hi : ℕ) → ((i : ℕ) → i < patches_in p → (lo ≤ number p i) × (number p i ≤ hi)) → (10 * lo ≤ composite_tenths p) × (composite_tenths p ≤ 10 * hi)
  unfolding composite_tenths mean_tenths weighted total_area
  composite_between lo hi each = (
    nearest_least (10 * lo) (10 * weighted p) (total_area p) area_some
        (omega (
          arith,
          sum_times lo (area p) (patches_in p),
          sum_le (λ i. lo * area p i) (weighted_at p) (patches_in p) (λ i l. mul-le-mul_right (area p i) (each i l).0),
        )),
    nearest_most (10 * hi) (10 * weighted p) (total_area p) area_some
        (omega (
          arith,
          sum_times hi (area p) (patches_in p),
          sum_le (weighted_at p) (λ i. hi * area p i) (patches_in p) (λ i l. mul-le-mul_right (area p i) (each i l).1),
        )),
  )

  -- so it is a curve number in tenths
  pub composite_ok : CurveOk (composite_tenths p)
  composite_ok =
      let numbers : (i : ℕ) → i < patches_in p → NumberOk (number p i) = λ i l. cover_ok (cover p i) (soil p i) (ok.each i l).place in
      let r = composite_between 30 98 (λ i l. ((numbers i l).least, (numbers i l).most)) in
      record { least = r.0; most = r.1 }

  -- where the mean is a whole number, the composite is that
  pub composite_whole : (C : ℕ) → weighted p ≡ C * total_area p → composite_tenths p ≡ 10 * C
  unfolding composite_tenths mean_tenths
  composite_whole C e =
      omega (
        arith,
        nearest_least (10 * C) (10 * weighted p) (total_area p) area_some (omega (arith, e)),
        nearest_most (10 * C) (10 * weighted p) (total_area p) area_some (omega (arith, e)),
      )

-- a code has one of the four classes, so its area counts once
once : (k a : ℕ) → 1 ≤ k → k ≤ 22 → pick (eqb (class_of k) 1) a 0 + pick (eqb (class_of k) 2) a 0 + pick (eqb (class_of k) 3) a 0 + pick (eqb (class_of k) 4) a 0 ≡ a
once k a lo hi =
    ⊎_elim (λ l. rw (← (is_surface k lo l)) (omega arith))
    (λ l. ⊎_elim (λ m. rw (← (is_district k l m)) (omega arith))
    (λ m. ⊎_elim (λ n. rw (← (is_lot k m n)) (omega arith))
    (λ n. rw (← (is_rural k n (omega arith))) (omega arith)) (below_or_not k 17)) (below_or_not k 11)) (below_or_not k 9)

module _ (p : List ℕ) (ok : PatchesOk p) where
  -- the class areas sum to the area
  pub classes_sum : class_area p (patches_in p) 1 + class_area p (patches_in p) 2 + class_area p (patches_in p) 3 + class_area p (patches_in p) 4 ≡ total_area p
  unfolding total_area
  classes_sum =
      let n = patches_in p in
      let f = area_in p in
      sym (sum_add (λ i. f 1 i + f 2 i + f 3 i) (f 4) n ∙ ap (λ (z : ℕ). z + sum_to (f 4) n) (sum_add (λ i. f 1 i + f 2 i) (f 3) n ∙ ap (λ (z : ℕ). z + sum_to (f 3) n) (sum_add (f 1) (f 2) n)))
      ∙ sum_same (λ i. f 1 i + f 2 i + f 3 i + f 4 i) (area p) n
      (λ i l. once (cover p i) (area p i) (ok.each i l).place.cover_least (ok.each i l).place.cover_most)

  -- a class's area is at most the area of the patches
  pub class_to : (class n : ℕ) → n ≤ patches_in p → class_area p n class ≤ n * 200000
  class_to class n l =
      sum_most (area_in p class) 200000 n
      (λ i k. by_test (λ (z : ℕ). z ≤ 200000) (eqb (class_of (cover p i)) class) (area p i) 0 (λ t. (ok.each i (omega arith)).area_most) (λ t. omega arith))

  -- so one patch more fits
  pub class_fits : (class i : ℕ) → i < patches_in p → Fits w64 (class_area p i class + area_in p class i)
  class_fits class i l = omega (arith, sum_more (area_in p class) i, class_to class (i + 1) (omega arith), ok.most)

-- the class areas with one patch more
pub classes_more : (p : List ℕ) (i : ℕ)
    → classes_plus (classes_to p i) (record { surfaces = area_in p 1 i; districts = area_in p 2 i; lots = area_in p 3 i; rural = area_in p 4 i }) ≡ classes_to p (i + 1)
classes_more p i =
    rw (sum_more (area_in p 1) i, sum_more (area_in p 2) i, sum_more (area_in p 3) i, sum_more (area_in p 4) i)
