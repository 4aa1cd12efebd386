-- Sums of weights times depths, a hand of weights at a time: what a hand adds, how large they are, and where they are whole. Assumes nothing.
use mathlib.Core.Path.{◌≡◌, sym, ap, ◌∙◌}
use mathlib.Core.List.{List}
use Prim.Native.Nat.{ℕ, ◌+◌, ◌-◌, ◌*◌, ◌≤◌, ◌<◌}
use native.Mathlib.Nat.{mul-le-mul_left}
use native.Mathlib.Omega.{arith}
use lib.ListN.{length, get_or}
use Rattle.laws.specs.Sum.{sum_to}
use Rattle.laws.specs.Listed.{rows_from, plus}
use Rattle.laws.proofs.Sums.{sum_le, sum_same, sum_times, sum_zeros, sum_upto, sum_split}
use Rattle.laws.proofs.Listed.{rows_length, rows_at, rows_are, plus_length, plus_at}
use Rattle.hydrograph.specs.InflowRows.{weight_at, weights, total_weight}
use Rattle.hydrograph.specs.Needs.{hand, weighed, product, most_depth, TimingOk}
use Rattle.hydrograph.proofs.Weights.{weights_most, total_to}
use Rattle.hydrograph.proofs.Hands.{weighed_past, weighed_own}
use Rattle.sums.specs.Needs.{handful}

-- the first n weights, each times what it is laid over
abbrev pub laid_over : ℕ → ℕ → (ℕ → ℕ) → ℕ → ℕ
laid_over Tp D Q n = sum_to (λ g. weighed Tp D g * Q g) n

-- a hand adds its own weights' terms
pub hand_more : (Tp D done : ℕ) (Q : ℕ → ℕ) (w q : List ℕ) (i : ℕ) → w ≡ rows_from (weighed Tp D) done hand
    → ((g : ℕ) → g < hand → get_or q (i + 7 - g) 0 ≡ Q (done + g))
    → laid_over Tp D Q (done + hand) ≡ laid_over Tp D Q done + handful w q (i + 1)
hand_more Tp D done Q w q i e over =
    sum_split (λ g. weighed Tp D g * Q g) done hand
    ∙ ap (λ (z : ℕ). laid_over Tp D Q done + z) (sum_same (λ g. weighed Tp D (done + g) * Q (done + g)) (product w q (i + 1 + 6)) hand (λ g l. sym (same g l)))
  where
    same : (g : ℕ) → g < hand → product w q (i + 1 + 6) g ≡ weighed Tp D (done + g) * Q (done + g)
    same g l =
        let k : i + 1 + 6 - g ≡ i + 7 - g = omega arith in
        rw (k, over g l, e, rows_at (weighed Tp D) done hand g l)

-- so does a hand that is laid over a list of sums
pub hands_more : (Tp D done : ℕ) (Q : ℕ → ℕ → ℕ) (w q : List ℕ) (from n : ℕ) → w ≡ rows_from (weighed Tp D) done hand
    → ((i g : ℕ) → i < n → g < hand → get_or q (i + 7 - g) 0 ≡ Q (from + i) (done + g))
    → plus (handful w q) 1 (rows_from (λ k. laid_over Tp D (Q k) done) from n) ≡ rows_from (λ k. laid_over Tp D (Q k) (done + hand)) from n
hands_more Tp D done Q w q from n e over =
    rows_are (λ k. laid_over Tp D (Q k) (done + hand)) from n (plus (handful w q) 1 sums) (plus_length (handful w q) 1 sums ∙ long) each
  where
    sums : List ℕ
    sums = rows_from (λ k. laid_over Tp D (Q k) done) from n

    long : length sums ≡ n
    long = rows_length (λ k. laid_over Tp D (Q k) done) from n

    each : (i : ℕ) → i < n → get_or (plus (handful w q) 1 sums) i 0 ≡ laid_over Tp D (Q (from + i)) (done + hand)
    each i l =
        let k : 1 + i ≡ i + 1 = omega arith in
        plus_at (handful w q) 1 sums i (omega (arith, long))
        ∙ rw (rows_at (λ k. laid_over Tp D (Q k) done) from n i l, k) (sym (hand_more Tp D done (Q (from + i)) w q i e (λ g h. over i g l h)))

-- past the last weight nothing is added
pub whole_past : (Tp D : ℕ) (Q : ℕ → ℕ) (n : ℕ) → weights Tp D ≤ n → laid_over Tp D Q n ≡ laid_over Tp D Q (weights Tp D)
whole_past Tp D Q n l = sum_zeros (λ g. weighed Tp D g * Q g) (weights Tp D) n l (λ g a b. rw (weighed_past Tp D g a) (omega arith))

module _ (D Tp : ℕ) (timing : TimingOk D Tp) (Q : ℕ → ℕ) (small : (g : ℕ) → Q g ≤ most_depth) where
  -- a sum is at most 30,000,000 times all weights
  pub sum_deep : (n : ℕ) → laid_over Tp D Q n ≤ most_depth * total_weight Tp D
  unfolding total_weight
  sum_deep n =
      omega (
        arith,
        sum_upto (λ g. weighed Tp D g * Q g) n (n + weights Tp D) (omega arith),
        whole_past Tp D Q (n + weights Tp D) (omega arith),
        sum_times most_depth (weight_at Tp D) (weights Tp D),
        sum_le (λ g. weighed Tp D g * Q g) (λ g. most_depth * weight_at Tp D g) (weights Tp D) each,
      )
    where
      each : (g : ℕ) → g < weights Tp D → weighed Tp D g * Q g ≤ most_depth * weight_at Tp D g
      each g l = rw (weighed_own Tp D g l) (omega (arith, mul-le-mul_left (weight_at Tp D g) (small g)))

  -- so it fits
  pub sum_fits : (n : ℕ) → laid_over Tp D Q n ≤ 16000000000000000
  unfolding total_weight
  sum_fits n = omega (arith, sum_deep n, total_to D Tp timing (weights Tp D) (omega arith), weights_most D Tp timing)

-- where the depths are 0 from a hand on, its sum is whole
pub whole_early : (Tp D : ℕ) (Q : ℕ → ℕ) (done : ℕ) → done ≤ weights Tp D → ((g : ℕ) → done ≤ g → Q g ≡ 0) → laid_over Tp D Q done ≡ laid_over Tp D Q (weights Tp D)
whole_early Tp D Q done l none = sym (sum_zeros (λ g. weighed Tp D g * Q g) done (weights Tp D) l (λ g a b. rw (none g a) (omega arith)))
