-- The sums of a block, hand by hand: the invariant of that loop. Assumes nothing.
use mathlib.Core.Path.{◌≡◌, sym, ap, ◌∙◌, subst}
use mathlib.Core.List.{List, ◌++◌}
use Prim.Native.Nat.{ℕ, ◌+◌, ◌-◌, ◌*◌, ◌≤◌, ◌<◌}
use native.Mathlib.Omega.{arith}
use borrow.Rule.Slice.PartMut.{put_mid}
use lib.ListN.{length, get_or, take, drop, replicate, length-append, length-drop, get_or-append}
use lib.Seq.{length-take-le, get_or-append-add}
use Rattle.laws.specs.Sum.{sum_to}
use Rattle.laws.specs.Listed.{rows_from}
use Rattle.laws.proofs.Listed.{rows_length, rows_at, rows_agree, rows_are}
use Rattle.curve.specs.Needs.{CurveOk}
use Rattle.hydrograph.specs.InflowRows.{runoff_at, weights, line_at}
use Rattle.hydrograph.specs.Needs.{hand, RainOk}
use Rattle.hydrograph.proofs.Released.{runoff_rises}
use Rattle.sums.specs.declared.Numbers.{Numbers}
use Rattle.sums.specs.Needs.{block_rows, sum_of, WindowOk}
use Rattle.sums.proofs.Hands.{whole_past, whole_early}

-- a blank window
abbrev pub blank : List ℕ
blank = replicate (block_rows + hand) 0

-- before the hand after the first `done`: the m sums are of the weights laid so far, and the window and the line are ready
pub record Summing (D : ℕ) (rain : List ℕ) (own : Numbers) (from m : ℕ) (sums q : List ℕ) (line done : ℕ) : Type 0 where
  pub summed : sums ≡ rows_from (sum_of D rain own done) from m
  pub window : WindowOk own.tenths rain from done (m - 1) q
  pub lined : line ≤ line_at own.peak (10 * ((done + 1) * D))

-- a blank window with the depths of its first hand written in
pub window_start : (c : ℕ) (rain : List ℕ) (from n k : ℕ) (ys : List ℕ) → k ≡ n → n ≤ block_rows
    → ys ≡ rows_from (λ (t : ℕ). runoff_at c rain (t - 0)) (from + 1) (length (take k (drop hand blank)))
    → WindowOk c rain from 0 n (put_mid hand k blank ys)
window_start c rain from n k ys same few e =
    record {
      long = simp (length-append, length-drop) (omega (arith, ys_long, same));
      each = λ x l. get_or-append-add (take hand blank) (ys ++ drop k (drop hand blank)) x 0
          ∙ get_or-append ys (drop k (drop hand blank)) 0 x (omega (arith, ys_long))
          ∙ ap (λ (z : List ℕ). get_or z x 0) e
          ∙ rows_at (λ (t : ℕ). runoff_at c rain (t - 0)) (from + 1) (length (take k (drop hand blank))) x (omega (arith, part_long));
    }
  where
    part_long : length (take k (drop hand blank)) ≡ n
    part_long = length-take-le k (drop hand blank) (omega arith) ∙ same

    ys_long : length ys ≡ n
    ys_long = ap length e ∙ rows_length (λ (t : ℕ). runoff_at c rain (t - 0)) (from + 1) (length (take k (drop hand blank))) ∙ part_long

module _ (D : ℕ) (rain : List ℕ) (own : Numbers) (from m : ℕ) where
  -- where the loop begins
  pub summing_start : (sums q : List ℕ) → sums ≡ rows_from (λ (k : ℕ). 0) 1 m → WindowOk own.tenths rain from 0 (m - 1) q → Summing D rain own from m sums q 0 0
  unfolding sum_of sum_to
  summing_start sums q e window =
      record {
        summed = rows_are (sum_of D rain own 0) from m sums (ap length e ∙ rows_length (λ (k : ℕ). 0) 1 m)
            (λ i l. ap (λ (z : List ℕ). get_or z i 0) e ∙ rows_at (λ (k : ℕ). 0) 1 m i l);
        window = window;
        lined = omega arith;
      }

  module _ {sums q : List ℕ} {line done : ℕ} (so : Summing D rain own from m sums q line done) where
    -- as many sums as there were
    pub summing_long : length sums ≡ m
    summing_long = ap length so.summed ∙ rows_length (sum_of D rain own done) from m

    -- one hand more
    pub summing_turn : {sums' q' : List ℕ} {line' : ℕ} → sums' ≡ rows_from (sum_of D rain own (done + hand)) from (length sums)
        → WindowOk own.tenths rain from (done + hand) (length sums - 1) q' → line' ≤ line_at own.peak (10 * ((done + hand + 1) * D))
        → Summing D rain own from m sums' q' line' (done + hand)
    summing_turn {q' = q'} e window lined =
        record {
          summed = e ∙ ap (rows_from (sum_of D rain own (done + hand)) from) summing_long;
          window = subst (λ (z : ℕ). WindowOk own.tenths rain from (done + hand) (z - 1) q') summing_long window;
          lined = lined;
        }

    -- where the window's last depth is 0 the sums are whole
    pub summing_stop : CurveOk own.tenths → RainOk rain → 2 ≤ m → done ≤ weights own.peak D → get_or q (m - 1 + hand - 1) 0 ≡ 0
        → sums ≡ rows_from (sum_of D rain own (weights own.peak D)) from m
    unfolding sum_of
    summing_stop curve ok some early none =
        so.summed ∙ rows_agree (sum_of D rain own done) (sum_of D rain own (weights own.peak D)) from m
        (λ i l. whole_early own.peak D (λ g. runoff_at own.tenths rain (from + i - g)) done early (λ g h. dry i g l h))
      where
        last : runoff_at own.tenths rain (from + 1 + (m - 2) - done) ≡ 0
        last = let k : hand + (m - 2) ≡ m - 1 + hand - 1 = omega arith in sym (so.window.each (m - 2) (omega arith)) ∙ ap (λ (z : ℕ). get_or q z 0) k ∙ none

        dry : (i g : ℕ) → i < m → done ≤ g → runoff_at own.tenths rain (from + i - g) ≡ 0
        dry i g l h = omega (arith, last, runoff_rises own.tenths rain curve ok (from + i - g) (from + 1 + (m - 2) - done) (omega arith))

    -- and so they are past the last weight
    pub summing_end : weights own.peak D ≤ done → sums ≡ rows_from (sum_of D rain own (weights own.peak D)) from m
    unfolding sum_of
    summing_end l =
        so.summed ∙ rows_agree (sum_of D rain own done) (sum_of D rain own (weights own.peak D)) from m
        (λ i h. whole_past own.peak D (λ g. runoff_at own.tenths rain (from + i - g)) done l)
