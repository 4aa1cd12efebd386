-- Laying the pieces of two sequences into rows. Assumes nothing.
use mathlib.Core.Path.{◌≡◌, ◌∙◌}
use mathlib.Core.Logic.{◌⊎◌, inl, inr, ⊎_elim}
use Prim.Native.Nat.{ℕ, zero, suc, ◌+◌, ◌-◌, ◌*◌, ◌≤◌, ◌<◌, min}
use native.Mathlib.Omega.{arith}
use borrow.Author.Tests.{le-leb, lt-leb, eq-eqb, ne_eqb}
use lib.Dec.{leb, eqb}
use Rattle.laws.specs.Pick.{pick}
use Rattle.laws.specs.Sum.{sum_to, sum_from1}
use Rattle.laws.proofs.Num.{below_or_not, equal_or_not}
use Rattle.laws.proofs.Sums.{sum_same, sum_swap}

-- a number that stands in row r alone is in the sum of the rows up to k exactly where r is one of them
pub row_through : (r v : ℕ) → 1 ≤ r → (k : ℕ) → sum_from1 (λ i. pick (eqb r i) v 0) k ≡ pick (leb r k) v 0
unfolding sum_to
row_through r v some zero = rw (lt-leb r 0 some)
row_through r v some (suc k) =
    ⊎_elim
    (λ (e : r ≡ k + 1). rw (row_through r v some k, eq-eqb r (k + 1) e, lt-leb r k (omega arith), le-leb r (suc k) (omega arith)) (omega arith))
    (λ (e : r ≡ k + 1 → ⊥).
    ⊎_elim (λ (l : r < k + 1). rw (row_through r v some k, ne_eqb r (k + 1) e, le-leb r k (omega arith), le-leb r (suc k) (omega arith)) (omega arith))
    (λ (l : k + 1 ≤ r). rw (row_through r v some k, ne_eqb r (k + 1) e, lt-leb r k (omega arith), lt-leb r (suc k) (beyond l e)))
    (below_or_not r (k + 1)))
    (equal_or_not r (k + 1))
  where
    beyond : k + 1 ≤ r → (r ≡ k + 1 → ⊥) → suc k < r
    beyond l e = ⊎_elim (λ (m : suc k < r). m) (λ (m : r ≤ suc k). absurd (e (omega arith))) (below_or_not (suc k) r)

-- one number more, in the row after those that the others may stand in
one_more_row : (s v m a b k : ℕ) → s ≤ pick (leb k a) m 0 → v ≤ m → b ≡ a + 1 → s + pick (eqb b k) v 0 ≤ pick (leb k b) m 0
one_more_row s v m a b k l small next =
    ⊎_elim (λ (h : a < k). past h (equal_or_not b k) (rw (lt-leb k a h) at l))
    (λ (h : k ≤ a). rw (ne_eqb b k (λ e. omega arith), le-leb k b (omega arith)) (omega (arith, rw (le-leb k a h) at l)))
    (below_or_not a k)
  where
    past : a < k → (b ≡ k) ⊎ (b ≡ k → ⊥) → s ≤ 0 → s + pick (eqb b k) v 0 ≤ pick (leb k b) m 0
    past h (inl e) none = rw (eq-eqb b k e, le-leb k b (omega arith)) (omega arith)
    past h (inr e) none = rw (ne_eqb b k e) (omega arith)

-- of numbers that are at most m and stand in one row each, number t in row t + j - 1, no row has more than one
pub row_most : (f : ℕ → ℕ) (m j : ℕ) → 1 ≤ j → (n : ℕ) → ((t : ℕ) → t < n → f (t + 1) ≤ m) → (k : ℕ) → sum_from1 (λ t. pick (eqb (t + j - 1) k) (f t) 0) n ≤ pick (leb k (n + j - 1)) m 0
unfolding sum_to
row_most f m j some zero small k = omega arith
row_most f m j some (suc n) small k =
    let e : suc n + j - 1 ≡ n + 1 + j - 1 = omega arith in
    rw e (one_more_row _ (f (n + 1)) m (n + j - 1) (n + 1 + j - 1) k (row_most f m j some n (λ t l. small t (omega arith)) k) (small n (omega arith)) (omega arith))

-- a sequence q that begins at 0 and never falls up to n, and weights w: q by its differences, each times each weight
module _ (q w : ℕ → ℕ) (n : ℕ) (start : q 0 ≡ 0) (rises : (t : ℕ) → t < n → q t ≤ q (t + 1)) where
  -- what step t with weight j puts into row k
  abbrev piece : ℕ → ℕ → ℕ → ℕ
  piece k t j = pick (eqb (t + j - 1) k) ((q t - q (t - 1)) * w j) 0

  -- of one weight, the steps up to m that fall into the rows up to k: their differences are q at the last of them
  by_weight : (k j m : ℕ) → 1 ≤ j → m ≤ n → sum_from1 (λ t. pick (leb (t + j - 1) k) ((q t - q (t - 1)) * w j) 0) m ≡ w j * q (min (k + 1 - j) m)
  unfolding sum_to
  by_weight k j zero some few = let e : min (k + 1 - j) 0 ≡ 0 = omega arith in rw (e, start) (omega arith)
  by_weight k j (suc m) some few =
      ⊎_elim
      (λ (l : k < m + 1 + j - 1).
      let e : min (k + 1 - j) (suc m) ≡ min (k + 1 - j) m = omega arith in
      rw (by_weight k j m some (omega arith), lt-leb (m + 1 + j - 1) k l, e) (omega arith))
      (λ (l : m + 1 + j - 1 ≤ k).
      let e : min (k + 1 - j) (suc m) ≡ m + 1 = omega arith in
      let d : min (k + 1 - j) m ≡ m = omega arith in
      let b : m + 1 - 1 ≡ m = omega arith in
      rw (by_weight k j m some (omega arith), le-leb (m + 1 + j - 1) k l, e, d, b) (one_more (q m) (q (m + 1)) (w j) (rises m (omega arith))))
      (below_or_not k (m + 1 + j - 1))
    where
      one_more : (a b v : ℕ) → a ≤ b → v * a + (b - a) * v ≡ v * b
      one_more a b v l = let e : b ≡ a + (b - a) = omega arith in go (b - a) e
        where
          go : (c : ℕ) → b ≡ a + c → v * a + c * v ≡ v * b
          go c e = rw e (omega arith)

  -- Laid into rows and summed through row k, the differences come to each weight times q: step t with weight j falls into row t + j - 1, so weight j has the steps up to k + 1 - j
  pub laid_through : (m k : ℕ) → sum_from1 (λ i. sum_from1 (λ t. sum_from1 (piece i t) m) n) k ≡ sum_from1 (λ j. w j * q (min (k + 1 - j) n)) m
  laid_through m k =
      sum_swap (λ i t. sum_from1 (piece (i + 1) (t + 1)) m) k n
      ∙ sum_same (λ t. sum_to (λ i. sum_from1 (piece (i + 1) (t + 1)) m) k) (λ t. sum_from1 (through (t + 1)) m) n (λ t l. by_step t)
      ∙ sum_swap (λ t j. through (t + 1) (j + 1)) n m
      ∙ sum_same (λ j. sum_to (λ t. through (t + 1) (j + 1)) n) (λ j. w (j + 1) * q (min (k + 1 - (j + 1)) n)) m (λ j l. by_weight k (j + 1) n (omega arith) (omega arith))
    where
      through : ℕ → ℕ → ℕ
      through t j = pick (leb (t + j - 1) k) ((q t - q (t - 1)) * w j) 0

      by_step : (t : ℕ) → sum_to (λ i. sum_from1 (piece (i + 1) (t + 1)) m) k ≡ sum_from1 (through (t + 1)) m
      by_step t =
          sum_swap (λ i j. piece (i + 1) (t + 1) (j + 1)) k m
          ∙ sum_same (λ j. sum_to (λ i. piece (i + 1) (t + 1) (j + 1)) k) (λ j. through (t + 1) (j + 1)) m
          (λ j l. row_through (t + 1 + (j + 1) - 1) ((q (t + 1) - q (t + 1 - 1)) * w (j + 1)) (omega arith) k)
