-- Sums over a list of depths that holds all they ask for, a hand of weights at a time. Assumes nothing.
use mathlib.Core.Path.{◌≡◌, ap, ◌∙◌}
use mathlib.Core.List.{List}
use Prim.Native.Nat.{ℕ, ◌+◌, ◌-◌, ◌*◌, ◌≤◌, ◌<◌, min}
use native.Mathlib.Omega.{arith}
use lib.ListN.{length, get_or, drop, length-drop}
use lib.Seq.{get_or-drop}
use Rattle.laws.specs.Sum.{sum_to}
use Rattle.laws.specs.Listed.{rows_from, plus}
use Rattle.laws.proofs.Listed.{rows_length, rows_at, rows_same, rows_are}
use Rattle.hydrograph.specs.InflowRows.{line_at, weights}
use Rattle.hydrograph.specs.Needs.{hand, weighed, most_depth, Below}
use Rattle.hydrograph.proofs.Lines.{line_next}
use Rattle.sums.specs.Needs.{handful, sum_in, NumbersOk}
use Rattle.sums.specs.declared.Numbers.{Numbers}
use Rattle.sums.proofs.Hands.{hands_more, whole_past, sum_fits}

-- The invariant, before the hand of weights after the first `done`: n sums have those weights, and the next weight's line is not passed
pub record Summing (D : ℕ) (own : Numbers) (q : List ℕ) (lead n : ℕ) (sums w : List ℕ) (line done : ℕ) : Type 0 where
  pub drawn : line ≤ line_at own.peak (10 * ((done + 1) * D))
  pub eight : length w ≡ hand
  pub summed : sums ≡ rows_from (sum_in D own q done) (lead - 1) n

module _ (D : ℕ) (own : Numbers) (q : List ℕ) (lead n : ℕ) where
  -- where the loop begins
  pub summing_start : {sums w : List ℕ} → sums ≡ rows_from (λ (k : ℕ). 0) 1 n → length w ≡ hand → Summing D own q lead n sums w 0 0
  unfolding sum_in sum_to
  summing_start {sums} {w} e long =
      record {
        drawn = omega arith;
        eight = long;
        summed = rows_are (sum_in D own q 0) (lead - 1) n sums (ap length e ∙ rows_length (λ (k : ℕ). 0) 1 n) (λ i l. ap (λ (z : List ℕ). get_or z i 0) e ∙ rows_at (λ (k : ℕ). 0) 1 n i l);
      }

  module _ {sums w : List ℕ} {line done : ℕ} (so : Summing D own q lead n sums w line done) where
    -- as many sums as asked
    pub summing_length : length sums ≡ n
    summing_length = ap length so.summed ∙ rows_length (sum_in D own q done) (lead - 1) n

    -- where the loop ends: past the last weight nothing is added
    pub summing_end : weights own.peak D ≤ done → sums ≡ rows_from (sum_in D own q (weights own.peak D)) (lead - 1) n
    unfolding sum_in
    summing_end l =
        so.summed ∙ rows_same (sum_in D own q done) (sum_in D own q (weights own.peak D)) (lead - 1) n (λ k. whole_past own.peak D (λ g. get_or q (k - g) 0) done l)

    -- a hand is laid over the depths from place lead - done - 8 on
    module _ (ahead : weights own.peak D + 7 ≤ lead) (fits : lead + n ≤ length q + 1) (more : done < weights own.peak D) where
      -- which are enough
      pub part_length : length sums + 7 ≤ length (drop (lead - done - 8) q)
      part_length = rw (summing_length, length-drop) (omega arith)

      module _ (small : Below q (length q) most_depth) where
        -- and no more than the most
        pub part_below : Below (drop (lead - done - 8) q) (length sums + 7) most_depth
        part_below =
            record { each = λ x l. rw (get_or-drop (lead - done - 8) q x 0) (small.each (lead - done - 8 + x) (omega (arith, summing_length))) }

        -- the sums have room for it
        pub summing_room : NumbersOk D own → Below sums (length sums) 16000000000000000
        unfolding sum_in
        summing_room ok =
            record {
              each = λ i l.
                  let h : i < n = omega (arith, summing_length) in
                  rw (so.summed, rows_at (sum_in D own q done) (lead - 1) n i h)
                  (sum_fits D own.peak ok.timed (λ g. get_or q (lead - 1 + i - g) 0) (λ g. small.each (lead - 1 + i - g) (omega arith)) done);
            }

      -- a hand of weights more
      pub summing_turn : {next v : List ℕ} {r : ℕ} → v ≡ rows_from (weighed own.peak D) done hand → r ≡ line_at own.peak (10 * (min (done + hand) (weights own.peak D) * D))
          → next ≡ plus (handful v (drop (lead - done - 8) q)) 1 sums → Summing D own q lead n next v r (done + 8)
      unfolding sum_in
      summing_turn {next} {v} {r} weighs drawn laid =
          record {
            drawn = rw drawn (line_next own.peak D done);
            eight = ap length weighs ∙ rows_length (weighed own.peak D) done hand;
            summed = laid ∙ ap (plus (handful v part) 1) so.summed ∙ hands_more own.peak D done (λ k g. get_or q (k - g) 0) v part (lead - 1) n weighs place;
          }
        where
          part : List ℕ
          part = drop (lead - done - 8) q

          place : (i g : ℕ) → i < n → g < hand → get_or part (i + 7 - g) 0 ≡ get_or q (lead - 1 + i - (done + g)) 0
          place i g h l =
              let m : lead - done - 8 + (i + 7 - g) ≡ lead - 1 + i - (done + g) = omega arith in
              get_or-drop (lead - done - 8) q (i + 7 - g) 0 ∙ ap (λ (z : ℕ). get_or q z 0) m
