-- The window of depths that a hand of weights is laid over: filled, laid over, and moved. Assumes nothing.
use mathlib.Core.Path.{◌≡◌, ap, ◌∙◌}
use mathlib.Core.Logic.{⊎_elim}
use mathlib.Core.List.{List, ◌++◌}
use Prim.Native.Nat.{ℕ, ◌+◌, ◌-◌, ◌≤◌, ◌<◌}
use native.Mathlib.Omega.{arith}
use lib.ListN.{length, get_or, take, drop, length-append, length-drop, get_or-append}
use lib.Seq.{length-take-le, get_or-drop, get_or-append-add}
use Rattle.laws.specs.Listed.{rows_from, plus}
use Rattle.laws.proofs.Num.{below_or_not}
use Rattle.laws.proofs.Listed.{rows_length, rows_at}
use Rattle.curve.specs.Needs.{CurveOk}
use Rattle.hydrograph.specs.InflowRows.{runoff_at}
use Rattle.hydrograph.specs.Needs.{hand, weighed, most_depth, TimingOk, RainOk, Below}
use Rattle.hydrograph.proofs.Released.{runoff_most}
use Rattle.sums.specs.declared.Numbers.{Numbers}
use Rattle.sums.specs.Needs.{block_rows, handful, sum_of, WindowOk, Slid}
use Rattle.sums.proofs.Hands.{hands_more, sum_fits}

-- the depths that go in front: as many as a hand, and a hand of weights back
abbrev hand_back : ℕ → List ℕ → ℕ → ℕ → List ℕ → List ℕ
hand_back c rain from done q = rows_from (λ (k : ℕ). runoff_at c rain (k - (done + hand))) (from + 1) (length (take hand q))

module _ (c : ℕ) (rain : List ℕ) (from done n : ℕ) (q : List ℕ) (so : WindowOk c rain from done n q) where
  front_long : length (take hand q) ≡ hand
  front_long = length-take-le hand q (omega (arith, so.long))

  module _ (ys : List ℕ) (e : ys ≡ hand_back c rain from done q) where
    ys_long : length ys ≡ hand
    ys_long = ap length e ∙ rows_length _ (from + 1) (length (take hand q)) ∙ front_long

    -- with them in front, each place has the depth that the hand asks of it
    pub window_full : (x : ℕ) → x < n + hand → get_or (ys ++ drop hand q) x 0 ≡ runoff_at c rain (from + 1 + x - (done + hand))
    window_full x l = ⊎_elim (λ (h : x < hand). near h) (λ (h : hand ≤ x). far (x - hand) (omega arith) (omega arith)) (below_or_not x hand)
      where
        near : x < hand → get_or (ys ++ drop hand q) x 0 ≡ runoff_at c rain (from + 1 + x - (done + hand))
        near h =
            get_or-append ys (drop hand q) 0 x (omega (arith, ys_long))
            ∙ ap (λ (z : List ℕ). get_or z x 0) e
            ∙ rows_at (λ (k : ℕ). runoff_at c rain (k - (done + hand))) (from + 1) (length (take hand q)) x (omega (arith, front_long))

        far : (y : ℕ) → x ≡ hand + y → y < n → get_or (ys ++ drop hand q) x 0 ≡ runoff_at c rain (from + 1 + x - (done + hand))
        far y p h =
            let at : x ≡ length ys + y = omega (arith, ys_long) in
            let k : from + 1 + y - done ≡ from + 1 + x - (done + hand) = omega arith in
            ap (λ (z : ℕ). get_or (ys ++ drop hand q) z 0) at ∙ get_or-append-add ys (drop hand q) y 0 ∙ get_or-drop hand q y 0 ∙ so.each y h ∙ ap (runoff_at c rain) k

    -- it is as long as it was
    pub full_long : length (ys ++ drop hand q) ≡ block_rows + hand
    full_long = simp (length-append, length-drop) (omega (arith, ys_long, so.long))

    -- no depth of it is large
    pub full_below : CurveOk c → RainOk rain → (m : ℕ) → m ≤ n + hand → Below (ys ++ drop hand q) m most_depth
    full_below curve ok m l = record { each = λ x h. rw (window_full x (omega arith)) (runoff_most c rain curve ok (from + 1 + x - (done + hand))) }

    -- moved up by a hand, it is ready for the next one
    pub window_moved : (moved : List ℕ) → Slid n (ys ++ drop hand q) moved → WindowOk c rain from (done + hand) n moved
    window_moved moved up = record { long = up.long ∙ full_long; each = λ x h. up.each x h ∙ window_full x (omega arith) }

module _ (D : ℕ) (rain : List ℕ) (own : Numbers) where
  -- a hand laid over the window makes the sums those of a hand of weights more
  pub laid_more : (from done m : ℕ) (w full sums : List ℕ) → w ≡ rows_from (weighed own.peak D) done hand
      → ((x : ℕ) → x < m - 1 + hand → get_or full x 0 ≡ runoff_at own.tenths rain (from + 1 + x - (done + hand)))
      → 1 ≤ m → sums ≡ rows_from (sum_of D rain own done) from m → plus (handful w full) 1 sums ≡ rows_from (sum_of D rain own (done + hand)) from m
  unfolding sum_of
  laid_more from done m w full sums e each some s =
      ap (plus (handful w full) 1) s ∙ hands_more own.peak D done (λ k g. runoff_at own.tenths rain (k - g)) w full from m e over
    where
      over : (i g : ℕ) → i < m → g < hand → get_or full (i + 7 - g) 0 ≡ runoff_at own.tenths rain (from + i - (done + g))
      over i g l h =
          let k : from + 1 + (i + 7 - g) - (done + hand) ≡ from + i - (done + g) = omega arith in
          each (i + 7 - g) (omega arith) ∙ ap (runoff_at own.tenths rain) k

  -- no sum is large
  pub sums_below : CurveOk own.tenths → RainOk rain → TimingOk D own.peak → (from done m : ℕ) (sums : List ℕ)
      → sums ≡ rows_from (sum_of D rain own done) from m → Below sums m 16000000000000000
  unfolding sum_of
  sums_below curve ok timing from done m sums s =
      record {
        each = λ i l. rw (s, rows_at (sum_of D rain own done) from m i l) (sum_fits D own.peak timing (λ g. runoff_at own.tenths rain (from + i - g)) (λ g. runoff_most own.tenths rain curve ok (from + i - g)) done);
      }
