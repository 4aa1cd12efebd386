-- The new inflow of a part of the rows, and what parts of the rows keep of what the rows have. Assumes nothing.
use mathlib.Core.Path.{◌≡◌, refl, sym, ap, ◌∙◌}
use mathlib.Core.List.{List, [], ◌∷◌}
use Prim.Native.Nat.{ℕ, zero, suc, ◌+◌, ◌-◌, ◌≤◌, ◌<◌}
use native.Mathlib.Omega.{arith}
use lib.ListN.{length, take, drop, length-take, length-drop}
use lib.Seq.{get_or-take, get_or-drop}
use Rattle.rows.specs.Needs.{InflowOk}
use Rattle.rows.specs.Figures.{at}
use Rattle.sums.specs.declared.Numbers.{Numbers}
use Rattle.parts.specs.Needs.{part_by}
use Rattle.alter.specs.Altering.{swapped}
use Rattle.alter.specs.Needs.{PartsFit}
use Rattle.alter.proofs.Swapping.{swapped_length}
use Rattle.fitting.specs.Needs.{new_after, TailFit}

module _ (f g : ℕ → ℕ) where
  -- the new inflow of the rows after row i, and of the first n rows
  pub swapped_drop : (i k : ℕ) (vs : List ℕ) → drop i (swapped f g k vs) ≡ swapped f g (k + i) (drop i vs)
  unfolding swapped
  swapped_drop zero k vs = let e : k ≡ k + 0 = omega arith in ap (λ (z : ℕ). swapped f g z vs) e
  swapped_drop (suc i) k [] = refl
  swapped_drop (suc i) k (v ∷ vs) = let e : k + 1 + i ≡ k + suc i = omega arith in swapped_drop i (k + 1) vs ∙ ap (λ (z : ℕ). swapped f g z (drop i vs)) e

  swapped_take : (n k : ℕ) (vs : List ℕ) → take n (swapped f g k vs) ≡ swapped f g k (take n vs)
  unfolding swapped
  swapped_take zero k vs = refl
  swapped_take (suc n) k [] = refl
  swapped_take (suc n) k (v ∷ vs) = ap (λ (l : List ℕ). (v - f k + g k) ∷ l) (swapped_take n (k + 1) vs)

-- a part of a list
module _ (vs : List ℕ) (i n : ℕ) where
  part_at : (j : ℕ) → j < length (take n (drop i vs)) → at (take n (drop i vs)) j ≡ at vs (i + j)
  part_at j l = get_or-take n (drop i vs) j 0 (omega (arith, length-take n (drop i vs))) ∙ get_or-drop i vs j 0

  part_few : i ≤ length vs → i + length (take n (drop i vs)) ≤ length vs
  part_few l = omega (arith, length-take n (drop i vs), length-drop i vs)

  pub part_inflow : InflowOk vs → i ≤ length vs → InflowOk (take n (drop i vs))
  part_inflow ok most = record { small = λ j l. rw (part_at j l) (ok.small (i + j) (omega (arith, part_few most))) }

  pub part_parts : (f : ℕ → ℕ) (from : ℕ) → PartsFit f from vs → i ≤ length vs → PartsFit f (from + i) (take n (drop i vs))
  part_parts f from ok most =
      record {
        room = record { most = omega (arith, part_few most, ok.room.most); room = λ j l. rw (part_at j l) (ok.room.room (i + j) (omega (arith, part_few most))) };
        least = λ j l. let e : from + 1 + (i + j) ≡ from + i + 1 + j = omega arith in rw (part_at j l, ← e) (ok.least (i + j) (omega (arith, part_few most)));
      }

module _ (D : ℕ) (rain p : List ℕ) (old own : Numbers) where
  abbrev f : ℕ → ℕ
  f = part_by D rain old

  abbrev g : ℕ → ℕ
  g = part_by D rain own

  -- the new inflow of a block of rows after row `from`
  pub block_new : (from i n : ℕ) (vs : List ℕ) → new_after D rain old own (from + i) (take n (drop i vs)) ≡ take n (drop i (new_after D rain old own from vs))
  block_new from i n vs =
      let e : from + i + 1 ≡ from + 1 + i = omega arith in
      ap (λ (z : ℕ). swapped f g z (take n (drop i vs))) e ∙ sym (swapped_take f g n (from + 1 + i) (drop i vs)) ∙ ap (take n) (sym (swapped_drop f g i (from + 1) vs))

  -- a block of rows that fit fits too
  pub block_fit : (from i n : ℕ) (vs : List ℕ) → TailFit D rain p old own from vs → i ≤ length vs → TailFit D rain p old own (from + i) (take n (drop i vs))
  block_fit from i n vs fit most =
      let ws = new_after D rain old own from vs in
      record {
        pond = fit.pond;
        raining = fit.raining;
        was = fit.was;
        is = fit.is;
        parted = part_parts vs i n f from fit.parted most;
        new = rw (block_new from i n vs) (part_inflow ws i n fit.new (omega (arith, swapped_length f g (from + 1) vs)));
        few = omega (arith, part_few vs i n most, fit.few);
      }
