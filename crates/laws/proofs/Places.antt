-- A search over places finds where a scan stops: laws of `first_bad_of`, for any test. Assumes nothing.
use Rattle.std.proofs.Common.{arith, ◌≡◌, ◌+◌, ◌<◌, ◌≤◌, ℕ, Bool, true, false, not, None, Some, refl, sym, ap, ◌∙◌, slice_index_or}
use borrow.Author.Tests.{ltb-true, ltb-false, le-ltb}
use lib.Dec.{ltb}
use Rattle.std.specs.Prelude.{IfSome}
use Rattle.std.specs.List.{position_or_len, range_with_len}
use Rattle.std.proofs.lemmas.Option.{none-some}
use Rattle.std.proofs.lemmas.List.Sums.{position_or_len_is}
use Rattle.std.proofs.lemmas.List.FromFn.{get_or-range_with_len, length-range_with_len}
use Rattle.laws.specs.Pick.{pick}
use Rattle.laws.specs.Scan.{scan}
use Rattle.laws.specs.Search.{first_bad_of}
use Rattle.laws.proofs.Scans.{scan_most, scan_bad, scan_before, scan_whole, scan_passes}

module _ (good : ℕ → Bool) (n : ℕ) where
  at : (k : ℕ) → k < n → slice_index_or (range_with_len 0 n) k 0 ≡ k
  at k l = get_or-range_with_len 0 n k 0 l ∙ omega arith

  most : scan good n 0 ≤ n
  most = omega (arith, scan_most good n 0)

  place : position_or_len (λ i. not (good i)) (range_with_len 0 n) ≡ scan good n 0
  place =
      let long = length-range_with_len 0 n in
      position_or_len_is
      (λ i. not (good i))
      (range_with_len 0 n)
      (scan good n 0)
      0
      (omega (arith, long, most))
      (λ k h. ap (λ i. not (good i)) (at k (omega (arith, h, most))) ∙ ap not (scan_before good n 0 k (omega arith) h))
      (λ h. let l : scan good n 0 < n = omega (arith, h, long) in ap (λ i. not (good i)) (at (scan good n 0) l) ∙ ap not (scan_bad good n 0 (omega (arith, l))))

  -- the place that a scan gives, or none where it gives the place after the last
  pub search_scan : first_bad_of good n ≡ pick (ltb (scan good n 0) n) (Some (scan good n 0)) None
  search_scan = rw (place, length-range_with_len 0 n) refl

  -- where a search finds none, each place is good
  pub search_passes : first_bad_of good n ≡ None → (i : ℕ) → i < n → good i ≡ true
  search_passes e = scan_passes good n (through (ltb (scan good n 0) n) refl (sym search_scan ∙ e))
    where
      through : (b : Bool) → ltb (scan good n 0) n ≡ b → pick b (Some (scan good n 0)) None ≡ None → n ≤ scan good n 0
      through true t q = absurd (none-some (scan good n 0) (sym q))
      through false t q = ltb-false (scan good n 0) n t

  -- and where each is, it finds none
  pub search_whole : ((i : ℕ) → i < n → good i ≡ true) → first_bad_of good n ≡ None
  search_whole each = rw (search_scan, scan_whole good n each, le-ltb n n (omega arith)) refl

  -- what it finds is one of the places
  pub search_below : (most : ℕ) → n ≤ most → IfSome (first_bad_of good n) (λ i. i < most)
  search_below most l = rw search_scan (found (ltb (scan good n 0) n) refl)
    where
      found : (b : Bool) → ltb (scan good n 0) n ≡ b → IfSome (pick b (Some (scan good n 0)) None) (λ i. i < most)
      found true t = let h = ltb-true (scan good n 0) n t in omega (arith, h, l)
      found false t = tt
