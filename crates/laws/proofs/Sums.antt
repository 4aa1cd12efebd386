-- Laws of a sum over an index. Assumes nothing.
use mathlib.Core.Path.{◌≡◌, refl, sym, ap, ◌∙◌}
use mathlib.Core.Logic.{⊎_elim}
use Prim.Native.Nat.{ℕ, zero, suc, ◌+◌, ◌*◌, ◌≤◌, ◌<◌}
use native.Mathlib.Nat.{eq-or-lt_of_le, le_of_suc-le-suc}
use native.Mathlib.Numerals.{add-one}
use native.Mathlib.Omega.{arith}
use Rattle.laws.specs.Sum.{sum_to}

-- one term more
pub sum_more : (f : ℕ → ℕ) (n : ℕ) → sum_to f (n + 1) ≡ sum_to f n + f n
unfolding sum_to
sum_more f n = rw add-one

-- terms that are each at most those of another sum
pub sum_le : (f g : ℕ → ℕ) (n : ℕ) → ((i : ℕ) → i < n → f i ≤ g i) → sum_to f n ≤ sum_to g n
unfolding sum_to
sum_le f g zero h = omega arith
sum_le f g (suc n) h = omega (arith, sum_le f g n (λ i l. h i (omega arith)), h n (omega arith))

-- terms that are the same
pub sum_same : (f g : ℕ → ℕ) (n : ℕ) → ((i : ℕ) → i < n → f i ≡ g i) → sum_to f n ≡ sum_to g n
unfolding sum_to
sum_same f g zero h = refl
sum_same f g (suc n) h = omega (arith, sum_same f g n (λ i l. h i (omega arith)), h n (omega arith))

-- a sum of sums
pub sum_add : (f g : ℕ → ℕ) (n : ℕ) → sum_to (λ i. f i + g i) n ≡ sum_to f n + sum_to g n
unfolding sum_to
sum_add f g zero = refl
sum_add f g (suc n) = omega (arith, sum_add f g n)

-- a factor of every term
pub sum_times : (k : ℕ) (f : ℕ → ℕ) (n : ℕ) → sum_to (λ i. k * f i) n ≡ k * sum_to f n
unfolding sum_to
sum_times k f zero = omega arith
sum_times k f (suc n) = omega (arith, sum_times k f n)

-- n terms, each at most m
pub sum_most : (f : ℕ → ℕ) (m n : ℕ) → ((i : ℕ) → i < n → f i ≤ m) → sum_to f n ≤ n * m
unfolding sum_to
sum_most f m zero h = omega arith
sum_most f m (suc n) h = omega (arith, sum_most f m n (λ i l. h i (omega arith)), h n (omega arith))

-- n terms, each at least m
pub sum_least : (f : ℕ → ℕ) (m n : ℕ) → ((i : ℕ) → i < n → m ≤ f i) → n * m ≤ sum_to f n
unfolding sum_to
sum_least f m zero h = omega arith
sum_least f m (suc n) h = omega (arith, sum_least f m n (λ i l. h i (omega arith)), h n (omega arith))

-- a sum is no less than any of its terms
pub sum_term : (f : ℕ → ℕ) (i n : ℕ) → i < n → f i ≤ sum_to f n
unfolding sum_to
sum_term f i zero l = absurd (omega arith)
sum_term f i (suc n) l =
    ⊎_elim (λ e. rw e (omega arith)) (λ k. omega (arith, sum_term f i n k)) (eq-or-lt_of_le (le_of_suc-le-suc l))

-- terms that are 0 from a place on leave the sum as it is there
pub sum_zeros : (f : ℕ → ℕ) (m n : ℕ) → m ≤ n → ((i : ℕ) → m ≤ i → i < n → f i ≡ 0) → sum_to f n ≡ sum_to f m
unfolding sum_to
sum_zeros f m zero l z = let e : m ≡ 0 = omega arith in rw e
sum_zeros f m (suc n) l z =
    ⊎_elim (λ e. rw e) (λ k. omega (arith, z n (omega arith) (omega arith), sum_zeros f m n (le_of_suc-le-suc k) (λ i a b. z i a (omega arith)))) (eq-or-lt_of_le l)

-- more terms never make a sum less
pub sum_upto : (f : ℕ → ℕ) (m n : ℕ) → m ≤ n → sum_to f m ≤ sum_to f n
unfolding sum_to
sum_upto f m zero l = let e : m ≡ 0 = omega arith in rw e (omega arith)
sum_upto f m (suc n) l = ⊎_elim (λ (e : m ≡ suc n). rw e (omega arith)) (λ (k : m < suc n). omega (arith, sum_upto f m n (le_of_suc-le-suc k))) (eq-or-lt_of_le l)

-- a sum of sums, by the other index first
pub sum_swap : (f : ℕ → ℕ → ℕ) (n m : ℕ) → sum_to (λ i. sum_to (λ j. f i j) m) n ≡ sum_to (λ j. sum_to (λ i. f i j) n) m
unfolding sum_to
sum_swap f zero m = sym (sum_zeros (λ j. 0) 0 m (omega arith) (λ i a b. refl))
sum_swap f (suc n) m = ap (λ (z : ℕ). z + sum_to (λ j. f n j) m) (sum_swap f n m) ∙ sym (sum_add (λ j. sum_to (λ i. f i j) n) (λ j. f n j) m)

-- a sum in two: its first terms, and those after them
pub sum_split : (f : ℕ → ℕ) (a b : ℕ) → sum_to f (a + b) ≡ sum_to f a + sum_to (λ i. f (a + i)) b
unfolding sum_to
sum_split f a zero = let e : a + 0 ≡ a = omega arith in ap (sum_to f) e ∙ omega arith
sum_split f a (suc b) = let e : a + suc b ≡ suc (a + b) = omega arith in ap (sum_to f) e ∙ omega (arith, sum_split f a b)
