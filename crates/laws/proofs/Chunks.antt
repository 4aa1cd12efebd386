-- The whole records of a flat list, as `as_chunks` gives them: what stands where; and a test of each element of a list, and a sum over them, by places. Assumes nothing.
use mathlib.Core.Path.{◌≡◌, refl, sym, ap, ◌∙◌}
use mathlib.Core.Bool.{Bool, true, false, ◌&&◌}
use mathlib.Core.List.{List, [], ◌∷◌}
use Prim.Native.Nat.{ℕ, zero, suc, ◌+◌, ◌*◌, ◌<◌}
use native.Mathlib.Omega.{arith}
use borrow.Author.Tests.{eq-eqb, ne_eqb}
use lib.ListN.{length, get_or, take, drop}
use lib.Seq.{get_or-take, get_or-drop, drop-drop}
use lib.Dec.{eqb}
use Rattle.std.specs.Simd.{first_chunks}
use Rattle.std.specs.List.{list_all, sum_by}
use Rattle.std.proofs.lemmas.List.Sums.{sum_by-cons}
use Rattle.laws.specs.Pick.{pick}
use Rattle.laws.specs.Scan.{scan}
use Rattle.laws.specs.Sum.{sum_to}
use Rattle.laws.proofs.Sums.{sum_same, sum_split}

module _ (w : ℕ) where
  -- as many as asked
  pub chunks_length : (k : ℕ) (l : List ℕ) → length (first_chunks w k l) ≡ k
  chunks_length zero l = refl
  chunks_length (suc k) l = ap suc (chunks_length k (drop w l))

  -- record i
  pub chunk_at : (k : ℕ) (l : List ℕ) (i : ℕ) → i < k → get_or (first_chunks w k l) i [] ≡ take w (drop (w * i) l)
  chunk_at zero l i h = absurd (omega arith)
  chunk_at (suc k) l zero h = let e : w * 0 ≡ 0 = omega arith in rw e refl
  chunk_at (suc k) l (suc i) h = let e : w * suc i ≡ w + w * i = omega arith in chunk_at k (drop w l) i (omega (arith, h)) ∙ rw (e, drop-drop (w * i) w l) refl

  -- number j of record i
  pub chunk_number : (k : ℕ) (l : List ℕ) (i j : ℕ) → i < k → j < w → get_or (get_or (first_chunks w k l) i []) j 0 ≡ get_or l (w * i + j) 0
  chunk_number k l i j h m = rw (chunk_at k l i h, get_or-take w (drop (w * i) l) j 0 m) (get_or-drop (w * i) l j 0)

module _ {A : Type 0} (d : A) where
  -- each element passes where a scan over the places runs to the end
  pub all_scan : (test : A → Bool) (good : ℕ → Bool) (xs : List A) (s : ℕ) → ((i : ℕ) → i < length xs → test (get_or xs i d) ≡ good (s + i)) → list_all test xs ≡ eqb (scan good (length xs) s) (s + length xs)
  unfolding scan
  all_scan test good [] s same = sym (eq-eqb s (s + 0) (omega arith))
  all_scan test good (x ∷ xs) s same = go (good s) refl (all_scan test good xs (s + 1) (λ i l. same (suc i) (omega (arith, l)) ∙ ap good (omega arith)))
    where
      first : test x ≡ good s
      first = same 0 (omega arith) ∙ ap good (omega arith)

      go : (b : Bool) → good s ≡ b → list_all test xs ≡ eqb (scan good (length xs) (s + 1)) (s + 1 + length xs) → (test x && list_all test xs) ≡ eqb (pick (good s) (scan good (length xs) (s + 1)) s) (s + suc (length xs))
      go true t rest = rw (first, t) (rest ∙ ap (eqb (scan good (length xs) (s + 1))) (omega arith))
      go false t rest = rw (first, t) (sym (ne_eqb s (s + suc (length xs)) (λ e. omega arith)))

  pub all_places : (test : A → Bool) (good : ℕ → Bool) (xs : List A) → ((i : ℕ) → i < length xs → test (get_or xs i d) ≡ good i) → list_all test xs ≡ eqb (scan good (length xs) 0) (length xs)
  all_places test good xs same =
      let e : 0 + length xs ≡ length xs = omega arith in
      rw e at (all_scan test good xs 0 (λ i l. same i l ∙ ap good (omega arith)))

  -- a sum over the elements is one over the places
  pub sum_places : (f : A → ℕ) (xs : List A) → sum_by f xs ≡ sum_to (λ i. f (get_or xs i d)) (length xs)
  unfolding sum_to
  sum_places f [] = refl
  sum_places f (x ∷ xs) =
      let e : suc (length xs) ≡ 1 + length xs = omega arith in
      sum_by-cons f x xs ∙ omega (arith, sum_places f xs, sum_split (λ i. f (get_or (x ∷ xs) i d)) 1 (length xs), ap (sum_to (λ i. f (get_or (x ∷ xs) i d))) e, sum_same (λ i. f (get_or (x ∷ xs) (1 + i) d)) (λ i. f (get_or xs i d)) (length xs) (λ i l. ap (λ (k : ℕ). f (get_or (x ∷ xs) k d)) (next i)))
    where
      next : (i : ℕ) → 1 + i ≡ suc i
      next i = omega arith
