-- The tally of the first rows, one row at a time, and the figures that it tells. Assumes nothing.
use mathlib.Core.Path.{◌≡◌, refl, sym, ap, subst, ◌∙◌}
use mathlib.Core.Bool.{Bool}
use mathlib.Core.Logic.{⊎_elim}
use mathlib.Core.List.{List}
use Prim.Native.Nat.{ℕ, zero, suc, ◌+◌, ◌-◌, ◌≤◌, ◌<◌, max}
use native.Mathlib.Nat.{eq-or-lt_of_le, le_of_suc-le-suc, eq-zero-or-pos}
use native.Mathlib.Numerals.{add-one}
use native.Mathlib.Omega.{arith}
use borrow.Author.Tests.{ltb-true, ltb-false, lt-ltb, le-ltb, ne_eqb}
use lib.Dec.{ltb}
use Rattle.laws.specs.Pick.{pick}
use Rattle.laws.specs.Scan.{scan}
use Rattle.laws.specs.Sum.{sum_to}
use Rattle.laws.proofs.Num.{below_or_not}
use Rattle.laws.proofs.Sums.{sum_more}
use Rattle.laws.proofs.Scans.{scan_is, scan_before, scan_bad, scan_most}
use Rattle.pond.specs.PondRows.{last_sum, stage_at}
use Rattle.pond.specs.Needs.{PondOk}
use Rattle.pond.proofs.Sums.{stage_rise}
use Rattle.rows.specs.Figures.{max_to, at, before, release_at, peak_row, kept_to}
use Rattle.rows.specs.Needs.{row_sum, tally_to, tally_none, tally_with, kept_of}

-- one more
pub max_more : (f : ℕ → ℕ) (n : ℕ) → max_to f (n + 1) ≡ max (max_to f n) (f n)
unfolding max_to
max_more f n = rw add-one

pub max_none : (f : ℕ → ℕ) → max_to f 0 ≡ 0
unfolding max_to
max_none f = refl

-- none is above the greatest
pub max_over : (f : ℕ → ℕ) (i n : ℕ) → i < n → f i ≤ max_to f n
unfolding max_to
max_over f i zero l = absurd (omega arith)
max_over f i (suc n) l = ⊎_elim (λ (e : i ≡ n). rw e (omega arith)) (λ (k : i < n). omega (arith, max_over f i n k)) (eq-or-lt_of_le (le_of_suc-le-suc l))

-- the greatest is at most what all are at most
pub max_most : (f : ℕ → ℕ) (m n : ℕ) → ((i : ℕ) → i < n → f i ≤ m) → max_to f n ≤ m
unfolding max_to
max_most f m zero h = omega arith
max_most f m (suc n) h = omega (arith, max_most f m n (λ i l. h i (omega arith)), h n (omega arith))

-- the same of functions that agree
pub max_same : (f g : ℕ → ℕ) (n : ℕ) → ((i : ℕ) → i < n → f i ≡ g i) → max_to f n ≡ max_to g n
unfolding max_to
max_same f g zero h = refl
max_same f g (suc n) h = omega (arith, max_same f g n (λ i l. h i (omega arith)), h n (omega arith))

module _ (os : List ℕ) where
  abbrev below : ℕ → ℕ → Bool
  below n i = ltb (at os i) (max_to (at os) n)

  -- some row has the greatest outflow
  pub peak_there : (n : ℕ) → 0 < n → scan (below n) n 0 < n
  peak_there n l = ⊎_elim (λ (w : scan (below n) n 0 < n). w) (λ (w : n ≤ scan (below n) n 0). absurd (never w)) (below_or_not (scan (below n) n 0) n)
    where
      never : n ≤ scan (below n) n 0 → ⊥
      never w =
          let under : (i : ℕ) → i < n → at os i < max_to (at os) n = λ i k. ltb-true (at os i) (max_to (at os) n) (scan_before (below n) n 0 i (omega arith) (omega arith)) in
          omega (arith, under 0 l, max_most (at os) (max_to (at os) n - 1) n (λ i k. omega (arith, under i k)))

  -- a row above all before it is the peak row, any other leaves it
  pub peak_more : (n : ℕ) → peak_row os (n + 1) ≡ pick (ltb (max_to (at os) n) (at os n)) (n + 1) (peak_row os n)
  unfolding peak_row
  peak_more n = ⊎_elim higher no_higher (below_or_not (max_to (at os) n) (at os n))
    where
      higher : max_to (at os) n < at os n → scan (below (n + 1)) (n + 1) 0 + 1 ≡ pick (ltb (max_to (at os) n) (at os n)) (n + 1) (scan (below n) n 0 + 1)
      higher w =
          let top : max_to (at os) (n + 1) ≡ at os n = omega (arith, max_more (at os) n) in
          let found : scan (below (n + 1)) (n + 1) 0 ≡ n
          = scan_is (below (n + 1)) (n + 1) n (omega arith)
          (λ k l. lt-ltb (at os k) (max_to (at os) (n + 1)) (omega (arith, max_over (at os) k n l, top)))
          (λ l. le-ltb (at os n) (max_to (at os) (n + 1)) (omega (arith, top))) in
          rw (lt-ltb (max_to (at os) n) (at os n) w) (omega (arith, found))

      here : at os n ≤ max_to (at os) n → max_to (at os) (n + 1) ≡ max_to (at os) n → at os (scan (below n) n 0) < max_to (at os) n → ⊥
      here w e l =
          ⊎_elim (λ (z : n ≡ 0). none z)
          (λ (some : 0 < n). omega (arith, ltb-false (at os (scan (below n) n 0)) (max_to (at os) n) (scan_bad (below n) n 0 (omega (arith, peak_there n some))), l))
          (eq-zero-or-pos n)
        where
          none : n ≡ 0 → ⊥
          none z = omega (arith, l, ap (max_to (at os)) z, max_none (at os))

      no_higher : at os n ≤ max_to (at os) n → scan (below (n + 1)) (n + 1) 0 + 1 ≡ pick (ltb (max_to (at os) n) (at os n)) (n + 1) (scan (below n) n 0 + 1)
      no_higher w =
          let e : max_to (at os) (n + 1) ≡ max_to (at os) n = omega (arith, max_more (at os) n) in
          let found : scan (below (n + 1)) (n + 1) 0 ≡ scan (below n) n 0
          = scan_is (below (n + 1)) (n + 1) (scan (below n) n 0) (omega (arith, scan_most (below n) n 0))
          (λ k l. lt-ltb (at os k) (max_to (at os) (n + 1)) (omega (arith, e, ltb-true (at os k) (max_to (at os) n) (scan_before (below n) n 0 k (omega arith) l))))
          (λ l. le-ltb (at os (scan (below n) n 0)) (max_to (at os) (n + 1)) (⊎_elim (λ (m : at os (scan (below n) n 0) < max_to (at os) n). absurd (here w e m)) (λ (m : max_to (at os) n ≤ at os (scan (below n) n 0)). omega (arith, e, m)) (below_or_not (at os (scan (below n) n 0)) (max_to (at os) n)))) in
          rw (le-ltb (max_to (at os) n) (at os n) w) (omega (arith, found))

-- the tally with one row more
pub tally_more : (h o : ℕ) (vs os ss : List ℕ) (n : ℕ)
    → tally_to h o vs os ss (n + 1) ≡ tally_with (tally_to h o vs os ss n) h (at vs n) (before o os n) (at os n) (row_sum h os ss n) (n + 1)
unfolding tally_to
tally_more h o vs os ss n =
    rw (sum_more (at vs) n, sum_more (release_at h o os) n, max_more (at os) n, max_more (row_sum h os ss) n, peak_more os n)

-- of no rows
pub tally_none_lem : (h o : ℕ) (vs os ss : List ℕ) → tally_to h o vs os ss 0 ≡ tally_none
unfolding sum_to max_to scan peak_row tally_to
tally_none_lem h o vs os ss = refl

module _ {h : ℕ} {p : List ℕ} (ok : PondOk h p) where
  -- of two X the greater has the greater stage
  stage_max : (a b : ℕ) → a ≤ last_sum h p → b ≤ last_sum h p → max (stage_at h p a) (stage_at h p b) ≡ stage_at h p (max a b)
  stage_max a b la lb = ⊎_elim rises falls (below_or_not a b)
    where
      rises : a < b → max (stage_at h p a) (stage_at h p b) ≡ stage_at h p (max a b)
      rises l = let e : max a b ≡ b = omega arith in rw e (omega (arith, stage_rise ok a b (omega arith) lb))

      falls : b ≤ a → max (stage_at h p a) (stage_at h p b) ≡ stage_at h p (max a b)
      falls l = let e : max a b ≡ a = omega arith in rw e (omega (arith, stage_rise ok b a l la))

  -- so of one number at least the greatest stage is the stage at the greatest
  pub stage_greatest : (f : ℕ → ℕ) (n : ℕ) → ((i : ℕ) → i < suc n → f i ≤ last_sum h p) → max_to (λ i. stage_at h p (f i)) (suc n) ≡ stage_at h p (max_to f (suc n))
  unfolding max_to
  stage_greatest f zero each = let e : max 0 (f 0) ≡ f 0 = omega arith in rw e (omega arith)
  stage_greatest f (suc n) each =
      ap (λ (z : ℕ). max z (stage_at h p (f (suc n)))) (stage_greatest f n (λ i l. each i (omega arith)))
      ∙ stage_max (max_to f (suc n)) (f (suc n)) (max_most f (last_sum h p) (suc n) (λ i l. each i (omega arith))) (each (suc n) (omega arith))

  -- what a tally tells are the figures of its rows
  pub kept_told : (o : ℕ) (vs os ss : List ℕ) (n : ℕ) → ((i : ℕ) → i < n → row_sum h os ss i ≤ last_sum h p)
      → kept_of h p (tally_to h o vs os ss n) n ≡ kept_to h p o os ss n
  unfolding kept_of kept_to tally_to max_to
  kept_told o vs os ss zero each = refl
  kept_told o vs os ss (suc n) each =
      let top = stage_greatest (row_sum h os ss) n each in
      rw (ne_eqb (suc n) 0 (omega arith))
      (λ j. record { released = sum_to (release_at h o os) (suc n); peak = max_to (at os) (suc n); row = peak_row os (suc n); stage = sym top j })

-- the outflow before a row, of rows that agree before it
before_same : (o : ℕ) (os new : List ℕ) (n : ℕ) → ((i : ℕ) → i < n → at os i ≡ at new i) → before o os n ≡ before o new n
before_same o os new zero each = refl
before_same o os new (suc n) each = let back : suc n - 1 ≡ n = omega arith in rw (ne_eqb (suc n) 0 (omega arith), back) (each n (omega arith))

-- the tally of rows that agree
pub tally_same : (h o : ℕ) (vs os ss newo news : List ℕ) (n : ℕ) → ((i : ℕ) → i < n → at os i ≡ at newo i) → ((i : ℕ) → i < n → at ss i ≡ at news i)
    → tally_to h o vs os ss n ≡ tally_to h o vs newo news n
tally_same h o vs os ss newo news zero each-o each-s = tally_none_lem h o vs os ss ∙ sym (tally_none_lem h o vs newo news)
tally_same h o vs os ss newo news (suc n) each-o each-s =
    let so = tally_same h o vs os ss newo news n (λ i l. each-o i (omega arith)) (λ i l. each-s i (omega arith)) in
    let flow = before_same o os newo n (λ i l. each-o i (omega arith)) in
    let one : n + 1 ≡ suc n = add-one n in
    subst (λ (m : ℕ). tally_to h o vs os ss m ≡ tally_to h o vs newo news m) one
    (tally_more h o vs os ss n ∙ (rw (so, flow, each-o n (omega arith), each-s n (omega arith))) ∙ sym (tally_more h o vs newo news n))
