-- What the first differing row tells: none exactly where two lists are the same; else every row before it is the same in both, and it is not. Assumes nothing.
use mathlib.Core.Path.{◌≡◌, refl, sym, ap, ◌∙◌}
use mathlib.Core.Bool.{Bool, true, false, ◌&&◌}
use mathlib.Core.List.{List, [], ◌∷◌}
use Prim.Native.Nat.{ℕ, ◌+◌, ◌≤◌, ◌<◌, min}
use native.Mathlib.Omega.{arith}
use borrow.Author.Tests.{eq-eqb, eqb-true, eqb-false, ltb-false}
use lib.Dec.{eqb}
use lib.ListN.{length, get_or}
use lib.Seq.{ext_get_or}
use Rattle.std.specs.Prelude.{Option, None, Some, not, ◌==◌, nat_lt, cond, position, unwrap_or}
use Rattle.std.specs.List.{zip, position_or_len}
use Rattle.std.proofs.lemmas.List.Sums.{position_or_len_is}
use Rattle.std.proofs.lemmas.Slice.Zip.{length-zip, get_or-zip}
use Rattle.std.proofs.lemmas.Option.{none-some}
use Rattle.laws.specs.Pick.{pick}
use Rattle.laws.specs.Scan.{scan}
use Rattle.laws.proofs.Tests.{both_left, both_right, both_true}
use Rattle.laws.proofs.Scans.{scan_most, scan_bad, scan_before, scan_whole}
use Rattle.engines.specs.Compared.{alike_in, first_differing}

module _ (a b : List ℕ) where
  -- no more rows are alike than the shorter list has
  pub alike_most : alike_in a b ≤ min (length a) (length b)
  unfolding alike_in
  alike_most = omega (arith, scan_most (λ i. eqb (get_or a i 0) (get_or b i 0)) (min (length a) (length b)) 0)

  abbrev row_alike : ℕ → Bool
  row_alike i = get_or a i 0 == get_or b i 0

  abbrev differs : ℕ × ℕ → Bool
  differs p = not (p.0 == p.1)

  -- a search of both lists by pairs ends where the rows are no longer alike
  place : position_or_len differs (zip a b) ≡ alike_in a b
  unfolding alike_in
  place =
      let m = min (length a) (length b) in
      let long = length-zip a b in
      let most = scan_most row_alike m 0 in
      let at : (k : ℕ) → k < m → differs (get_or (zip a b) k (0, 0)) ≡ not (row_alike k) = λ k h. ap differs (get_or-zip a b k (0, 0) (omega arith) (omega arith)) in
      position_or_len_is
      differs
      (zip a b)
      (scan row_alike m 0)
      (0, 0)
      (omega (arith, long, most))
      (λ k h. at k (omega (arith, h, most)) ∙ ap not (scan_before row_alike m 0 k (omega arith) h))
      (λ h. let l : scan row_alike m 0 < m = omega (arith, h, long) in at (scan row_alike m 0) l ∙ ap not (scan_bad row_alike m 0 (omega (arith, l))))

  pub alike_found : unwrap_or (position differs (zip a b)) (min (length a) (length b)) ≡ alike_in a b
  alike_found = rw (place, length-zip a b) (go (nat_lt (alike_in a b) (min (length a) (length b))) refl)
    where
      go : (t : Bool) → nat_lt (alike_in a b) (min (length a) (length b)) ≡ t → unwrap_or (cond t (Some (alike_in a b)) None) (min (length a) (length b)) ≡ alike_in a b
      go true q = refl
      go false q = let l = ltb-false (alike_in a b) (min (length a) (length b)) q in omega (arith, l, alike_most)

  -- each of them is the same in both
  pub alike_same : (i : ℕ) → i < alike_in a b → get_or a i 0 ≡ get_or b i 0
  unfolding alike_in
  alike_same i l = eqb-true (get_or a i 0) (get_or b i 0) (scan_before (λ i. eqb (get_or a i 0) (get_or b i 0)) (min (length a) (length b)) 0 i (omega arith) l)

  -- the next is not, where both lists have one
  pub alike_ends : alike_in a b < min (length a) (length b) → get_or a (alike_in a b) 0 ≡ get_or b (alike_in a b) 0 → ⊥
  unfolding alike_in
  alike_ends l = eqb-false _ _ (scan_bad (λ i. eqb (get_or a i 0) (get_or b i 0)) (min (length a) (length b)) 0 (omega arith))

  -- lists that are the same have no first differing row
  pub differing_none : a ≡ b → first_differing a b ≡ None
  unfolding alike_in first_differing
  differing_none e =
      let long : length a ≡ length b = ap length e in
      let whole : scan (λ i. eqb (get_or a i 0) (get_or b i 0)) (min (length a) (length b)) 0 ≡ min (length a) (length b)
      = scan_whole (λ i. eqb (get_or a i 0) (get_or b i 0)) (min (length a) (length b)) (λ i l. eq-eqb (get_or a i 0) (get_or b i 0) (ap (λ (z : List ℕ). get_or z i 0) e)) in
      rw (both_true (eq-eqb (alike_in a b) (length a) (omega (arith, whole, long))) (eq-eqb (alike_in a b) (length b) (omega (arith, whole, long))))

  -- and lists that have none are the same
  pub none_differing : first_differing a b ≡ None → a ≡ b
  unfolding first_differing
  none_differing e = go (eqb (alike_in a b) (length a) && eqb (alike_in a b) (length b)) refl e
    where
      go : (t : Bool) → (eqb (alike_in a b) (length a) && eqb (alike_in a b) (length b)) ≡ t → pick t None (Some (alike_in a b + 1)) ≡ None → a ≡ b
      go true q n =
          let left = eqb-true (alike_in a b) (length a) (both_left _ (eqb (alike_in a b) (length b)) q) in
          let right = eqb-true (alike_in a b) (length b) (both_right (eqb (alike_in a b) (length a)) _ q) in
          ext_get_or 0 a b (omega (arith, left, right)) (λ i l. alike_same i (omega (arith, left)))
      go false q n = absurd (none-some (alike_in a b + 1) (sym n))

  -- a row that is told is the one after those alike
  pub differing_is : (k : ℕ) → first_differing a b ≡ Some (k + 1) → k ≡ alike_in a b
  unfolding first_differing
  differing_is k e = go (eqb (alike_in a b) (length a) && eqb (alike_in a b) (length b)) e
    where
      go : (t : Bool) → pick t None (Some (alike_in a b + 1)) ≡ Some (k + 1) → k ≡ alike_in a b
      go true q = absurd (none-some (k + 1) q)
      go false q = let e = ap (λ (o : Option ℕ). unwrap_or o 0) q in omega (arith, e)

-- by computation: lists that differ in the first row, in a later one, in length
pub told : first_differing (7 ∷ 8 ∷ 9 ∷ []) (6 ∷ 8 ∷ 9 ∷ []) ≡ Some 1
unfolding alike_in first_differing scan
told = refl

pub told_later : first_differing (7 ∷ 8 ∷ 9 ∷ []) (7 ∷ 8 ∷ 10 ∷ []) ≡ Some 3
unfolding alike_in first_differing scan
told_later = refl

pub told_longer : first_differing (7 ∷ 8 ∷ []) (7 ∷ 8 ∷ 9 ∷ []) ≡ Some 3
unfolding alike_in first_differing scan
told_longer = refl
