-- Spare numbers are not read: lists of segments that agree in all others pass alike, and have the same Tc. Assumes nothing.
use mathlib.Core.Path.{◌≡◌, refl}
use mathlib.Core.Bool.{Bool, true, false}
use mathlib.Core.List.{List}
use Prim.Native.Nat.{ℕ, ◌<◌}
use lib.Dec.{eqb}
use native.Mathlib.Omega.{arith}
use borrow.Author.Tests.{eqb-false}
use Rattle.laws.specs.Flat.{flat_good}
use Rattle.laws.specs.Pick.{pick}
use Rattle.laws.specs.Within.{within}
use Rattle.laws.proofs.Scans.{scan_same}
use Rattle.laws.proofs.Sums.{sum_same}
use Rattle.laws.proofs.Tests.{kept}
use Rattle.travel.specs.TravelTime.{segments_in, number_of, kind, segment_time, segment_time_at, concentration, segment_within, segment_good, segments_good, SameSegment, SameSegments}

-- a choice whose second is the same where it is taken
pick_same : (t : Bool) (s x y : ℕ) → (t ≡ false → x ≡ y) → pick t s x ≡ pick t s y
pick_same true s x y h = refl
pick_same false s x y h = h refl

-- the limits and the time of a kind that has spare numbers, whatever they are
within_spare : (M k L a b c d e : ℕ) → within 1 k 3 ≡ true → segment_within M k L a b c ≡ segment_within M k L a d e
unfolding segment_within
within_spare M k L a b c d e h = rw h

time_spare : (k L a b c d e : ℕ) → within 1 k 3 ≡ true → segment_time k L a b c ≡ segment_time k L a d e
unfolding segment_time
time_spare k L a b c d e h =
    let o = kept 1 k 3 h in
    pick_same (eqb k 1) _ _ _ (λ one. pick_same (eqb k 2) _ _ _ (λ two. pick_same (eqb k 3) _ _ _ (λ three. absurd (omega (arith, o.low, o.high, eqb-false k 1 one, eqb-false k 2 two, eqb-false k 3 three)))))

-- what does so is the same of two segments of which the same is read
read_same : {A : Type 0} (f : ℕ → ℕ → ℕ → ℕ → ℕ → A) → ((k L a b c d e : ℕ) → within 1 k 3 ≡ true → f k L a b c ≡ f k L a d e) → (g q : List ℕ) (i : ℕ) → SameSegment g q i
    → f (kind g i) (number_of g i 1) (number_of g i 2) (number_of g i 3) (number_of g i 4) ≡ f (kind q i) (number_of q i 1) (number_of q i 2) (number_of q i 3) (number_of q i 4)
read_same f spare g q i s = go (within 1 (kind g i) 3) refl
  where
    go : (t : Bool) → within 1 (kind g i) 3 ≡ t → f (kind g i) (number_of g i 1) (number_of g i 2) (number_of g i 3) (number_of g i 4) ≡ f (kind q i) (number_of q i 1) (number_of q i 2) (number_of q i 3) (number_of q i 4)
    go true e = cc (s.first, s.second, s.third, spare (kind g i) (number_of g i 1) (number_of g i 2) (number_of g i 3) (number_of g i 4) (number_of q i 3) (number_of q i 4) e)
    go false e = cc (s.first, s.second, s.third, s.fourth e, s.fifth e)

module _ (g q : List ℕ) (same : SameSegments g q) where
  -- a segment's test and its time
  good_same : (M i : ℕ) → i < segments_in g → segment_good M g i ≡ segment_good M q i
  good_same M i l = cc ((same.each i l).first, read_same (segment_within M) (within_spare M) g q i (same.each i l))

  time_same : (i : ℕ) → i < segments_in g → segment_time_at g i ≡ segment_time_at q i
  time_same i l = read_same segment_time time_spare g q i (same.each i l)

  -- those of the list
  pub segments_same : (M : ℕ) → segments_good M g ≡ segments_good M q
  unfolding segments_good flat_good
  segments_same M = rw (scan_same (segment_good M g) (segment_good M q) (segments_in g) 0 (λ k lo l. good_same M k (omega (arith, l))), same.long)

  pub concentration_same : concentration g ≡ concentration q
  unfolding concentration
  concentration_same = rw (sum_same (segment_time_at g) (segment_time_at q) (segments_in g) time_same, same.long)
