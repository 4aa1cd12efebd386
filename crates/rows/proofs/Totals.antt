-- The inflow of a list of rows, and the loop that sums it. Assumes nothing.
use mathlib.Core.Path.{◌≡◌, refl}
use mathlib.Core.List.{List, [], ◌∷◌}
use Prim.Native.Nat.{ℕ, zero, suc, ◌+◌, ◌*◌, ◌≤◌, ◌<◌}
use native.Mathlib.Omega.{arith}
use lib.ListN.{length, take, drop}
use Rattle.std.specs.Prelude.{fold, sum, ◌^◌}
use Rattle.laws.specs.Sum.{sum_to}
use Rattle.laws.proofs.Sums.{sum_most}
use Rattle.rows.specs.Routing.{total}
use Rattle.rows.specs.Needs.{InflowOk}
use Rattle.rows.specs.Figures.{at}

-- the inflow of a list is that of its first rows and that of the others
pub total_split : (n : ℕ) (vs : List ℕ) → total vs ≡ total (take n vs) + total (drop n vs)
unfolding total
total_split zero vs = omega arith
total_split (suc n) [] = refl
total_split (suc n) (v ∷ vs) = omega (arith, total_split n vs)

-- a sum by its first term and the others
sum_first : (f : ℕ → ℕ) (n : ℕ) → sum_to f (suc n) ≡ f 0 + sum_to (λ i. f (suc i)) n
unfolding sum_to
sum_first f zero = omega arith
sum_first f (suc n) = omega (arith, sum_first f n)

-- it is the sum over the rows
pub total_sum : (vs : List ℕ) → total vs ≡ sum_to (at vs) (length vs)
unfolding total sum_to
total_sum [] = refl
total_sum (v ∷ vs) = omega (arith, total_sum vs, sum_first (at (v ∷ vs)) (length vs))

-- what rows bring in
pub inflow_most : (vs : List ℕ) (n : ℕ) → InflowOk vs → n ≤ length vs → sum_to (at vs) n ≤ n * 1000000000000000
inflow_most vs n come l = sum_most (at vs) 1000000000000000 n (λ i k. come.small i (omega arith))

fold_total : (b : ℕ) (vs : List ℕ) → fold (λ a x. a + x) b vs ≡ b + total vs
unfolding total
fold_total b [] = omega arith
fold_total b (v ∷ vs) = omega (arith, fold_total (b + v) vs)

-- the sum over the list is the inflow
pub sum_total : (vs : List ℕ) → sum vs ≡ total vs
sum_total vs = omega (arith, fold_total 0 vs)

-- and does not wrap
pub sum_fits : (vs : List ℕ) → InflowOk vs → length vs ≤ 2000 → sum vs < 2 ^ 64
sum_fits vs come few = omega (arith, sum_total vs, total_sum vs, inflow_most vs (length vs) come (omega arith))
