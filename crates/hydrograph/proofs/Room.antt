-- Parts of subareas whose areas total at most 200,000, summed row by row. Assumes nothing.
use Prim.Native.Nat.{ℕ, ◌+◌, ◌*◌, ◌≤◌, ◌<◌}
use native.Mathlib.Omega.{arith}
use Rattle.laws.specs.Sum.{sum_to}
use Rattle.laws.specs.Limits.{most_rows, most_area, most_inflow}
use Rattle.laws.specs.Listed.{rows_from}
use Rattle.laws.proofs.Sums.{sum_le, sum_times, sum_upto}
use Rattle.laws.proofs.Listed.{rows_length, rows_at}
use Rattle.hydrograph.specs.Needs.{RoomOk}

-- n subareas by their areas, and parts of each row that are at most 1,089,000 times an area
module _ (n : ℕ) (A : ℕ → ℕ) (p : ℕ → ℕ → ℕ) (area : sum_to A n ≤ most_area) (small : (j k : ℕ) → j < n → p j k ≤ 1089000 * A j) where
  -- no row is above 217,800,000,000
  pub parts_most : (i k : ℕ) → i ≤ n → sum_to (λ j. p j k) i ≤ most_inflow
  parts_most i k l =
      omega (arith, area, sum_times 1089000 A i, sum_upto A i n l, sum_le (λ j. p j k) (λ j. 1089000 * A j) i (λ j h. small j k (omega arith)))

  -- so rows that have some parts have room for one more
  pub parts_room : (i m : ℕ) → i ≤ n → m ≤ most_rows → RoomOk (rows_from (λ k. sum_to (λ j. p j k) i) 1 m)
  parts_room i m l few =
      let f : ℕ → ℕ = λ k. sum_to (λ j. p j k) i in
      record {
        most = omega (arith, rows_length f 1 m);
        room = λ j h. rw (rows_at f 1 m j (omega (arith, rows_length f 1 m))) (omega (arith, parts_most i (1 + j) l));
      }
