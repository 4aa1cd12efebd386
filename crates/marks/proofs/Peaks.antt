-- The row asked is the peak row exactly where no row before it is as high and none after it is higher. Assumes nothing.
use mathlib.Core.Path.{◌≡◌, refl, sym, ap, ◌∙◌, subst}
use mathlib.Core.Bool.{Bool, true, false, not, false≢true}
use mathlib.Core.Logic.{⊎_elim}
use mathlib.Core.List.{List}
use Prim.Native.Nat.{ℕ, ◌+◌, ◌-◌, ◌≤◌, ◌<◌}
use native.Mathlib.Nat.{eq-or-lt_of_le}
use native.Mathlib.Omega.{arith}
use borrow.Author.Tests.{ltb-true, ltb-false, lt-ltb, le-ltb, leb-false, lt-leb, eq-eqb, ne_eqb}
use lib.Dec.{ltb, leb, eqb}
use lib.ListN.{length, take, drop, length-drop}
use Rattle.std.specs.Prelude.{Option, None, Some, cond}
use Rattle.std.specs.List.{position_or_len}
use Rattle.std.specs.Option.{is_none}
use Rattle.std.proofs.lemmas.Option.{none-some}
use Rattle.std.proofs.lemmas.List.Sums.{position_or_len_is, prefix_len_passes}
use lib.Seq.{get_or-take, get_or-drop, length-take-le}
use Rattle.laws.specs.Scan.{scan}
use Rattle.laws.proofs.Num.{below_or_not}
use Rattle.laws.proofs.Scans.{scan_is, scan_bad, scan_before}
use Rattle.rows.specs.Figures.{max_to, at, peak_row}
use Rattle.rows.proofs.Keeping.{max_over, max_most}
use Rattle.marks.specs.Needs.{first_at_least}

-- row i (from 0) is above each row before it, and none after it is higher
pub record Top (os : List ℕ) (i : ℕ) : Type 0 where
  pub before : (k : ℕ) → k < i → at os k < at os i
  pub after : (k : ℕ) → i < k → k < length os → at os k ≤ at os i

-- no row is as high: the search finds none
none_high : (os : List ℕ) (o : ℕ) → ((k : ℕ) → k < length os → at os k < o) → first_at_least os o ≡ None
none_high os o low =
    let place = position_or_len_is (λ q. leb o q) os (length os) 0 (omega arith) (λ k u. lt-leb o (at os k) (low k u)) (λ u. absurd (omega (arith, u))) in
    rw (place, le-ltb (length os) (length os) (omega arith)) refl

-- and where it finds none, no row is
high_none : (os : List ℕ) (o : ℕ) → first_at_least os o ≡ None → (k : ℕ) → k < length os → at os k < o
high_none os o e k u = go (ltb (position_or_len (λ q. leb o q) os) (length os)) refl e
  where
    lower : (b : Bool) → leb o (at os k) ≡ b → not b ≡ true → at os k < o
    lower true t q = absurd (false≢true q)
    lower false t q = leb-false o (at os k) t

    go : (b : Bool) → ltb (position_or_len (λ q. leb o q) os) (length os) ≡ b → cond b (Some (position_or_len (λ q. leb o q) os)) None ≡ None → at os k < o
    go true t q = absurd (none-some _ (sym q))
    go false t q =
        lower (leb o (at os k)) refl (prefix_len_passes (λ q. not (leb o q)) os k 0 (omega (arith, u, ltb-false (position_or_len (λ q. leb o q) os) (length os) t)))

module _ (os : List ℕ) (i : ℕ) (l : i < length os) where
  abbrev n : ℕ
  n = length os

  -- the rows before it, and those after it
  abbrev earlier : List ℕ
  earlier = take i os

  before_long : length earlier ≡ i
  before_long = length-take-le i os (omega (arith, l))

  abbrev later : List ℕ
  later = drop (i + 1) os

  long : length later ≡ n - (i + 1)
  long = length-drop (i + 1) os

  -- such a row is as high as any
  top_all : Top os i → (k : ℕ) → k < n → at os k ≤ at os i
  top_all t k u =
      ⊎_elim (λ (w : k < i). omega (arith, t.before k w))
      (λ (w : i ≤ k). ⊎_elim (λ (e : i ≡ k). subst (λ (z : ℕ). at os z ≤ at os i) e (omega arith)) (λ (v : i < k). t.after k v u) (eq-or-lt_of_le w))
      (below_or_not k i)

  -- and it is the peak row
  pub top_peak : Top os i → i + 1 ≡ peak_row os n
  unfolding peak_row
  top_peak t =
      let e : max_to (at os) n ≡ at os i = omega (arith, max_over (at os) i n l, max_most (at os) (at os i) n (top_all t)) in
      let found : scan (λ k. ltb (at os k) (max_to (at os) n)) n 0 ≡ i
      = scan_is _ n i (omega (arith, l)) (λ k u. lt-ltb (at os k) (max_to (at os) n) (omega (arith, e, t.before k u))) (λ u. le-ltb (at os i) (max_to (at os) n) (omega (arith, e))) in
      omega (arith, found)

  -- the peak row is such a row
  pub peak_top : i + 1 ≡ peak_row os n → Top os i
  unfolding peak_row
  peak_top e =
      let good : ℕ → Bool = λ k. ltb (at os k) (max_to (at os) n) in
      let found : scan good n 0 ≡ i = omega (arith, e) in
      let high : max_to (at os) n ≤ at os i = ltb-false (at os i) (max_to (at os) n) (subst (λ (z : ℕ). good z ≡ false) found (scan_bad good n 0 (omega (arith, found, l)))) in
      record {
        before = λ k u. omega (arith, high, ltb-true (at os k) (max_to (at os) n) (scan_before good n 0 k (omega arith) (omega (arith, found, u))));
        after = λ k v u. omega (arith, high, max_over (at os) k n u);
      }

  -- no row before the peak row is as high
  pub peak_first : i + 1 ≡ peak_row os n → first_at_least earlier (at os i) ≡ None
  peak_first e = none_high earlier (at os i) (λ k u. omega (arith, get_or-take i os k 0 (omega (arith, u, before_long)), (peak_top e).before k (omega (arith, u, before_long))))

  -- and none after it is higher
  peak_last : i + 1 ≡ peak_row os n → first_at_least later (at os i + 1) ≡ None
  peak_last e =
      none_high later (at os i + 1) (λ j u. omega (arith, get_or-drop (i + 1) os j 0, (peak_top e).after (i + 1 + j) (omega arith) (omega (arith, u, long))))

  -- a row that both hold of is the peak row
  both_peak : first_at_least earlier (at os i) ≡ None → first_at_least later (at os i + 1) ≡ None → i + 1 ≡ peak_row os n
  both_peak e f =
      top_peak (record {
        before = λ k u. omega (arith, high_none earlier (at os i) e k (omega (arith, u, before_long)), get_or-take i os k 0 u);
        after = λ k v u.
            let j = k - (i + 1) in
            let there : i + 1 + (k - (i + 1)) ≡ k = omega (arith, v) in
            omega (arith, high_none later (at os i + 1) f j (omega (arith, u, v, long)), get_or-drop (i + 1) os j 0, ap (at os) there);
      })

  -- where no row before it is as high, the rows after it decide
  pub peak_told : first_at_least earlier (at os i) ≡ None → is_none (first_at_least later (at os i + 1)) ≡ eqb (i + 1) (peak_row os n)
  peak_told e = go (first_at_least later (at os i + 1)) refl
    where
      go : (f : Option ℕ) → first_at_least later (at os i + 1) ≡ f → is_none f ≡ eqb (i + 1) (peak_row os n)
      go None t = sym (eq-eqb (i + 1) (peak_row os n) (both_peak e t))
      go (Some k) t = sym (ne_eqb (i + 1) (peak_row os n) (λ q. none-some k (sym (peak_last q) ∙ t)))
