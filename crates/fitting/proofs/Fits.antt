-- 16 and what is left without the old record's parts, row by row and block by block. Assumes nothing.
use mathlib.Core.Path.{◌≡◌, refl, sym, ap, ◌∙◌, subst}
use mathlib.Core.Bool.{Bool, true, false}
use mathlib.Core.Logic.{⊎_elim}
use mathlib.Core.List.{List, ◌++◌}
use Prim.Native.Nat.{ℕ, zero, suc, ◌+◌, ◌-◌, ◌*◌, ◌≤◌, ◌<◌}
use native.Mathlib.Omega.{arith}
use borrow.Author.Tests.{leb-true, le-leb, lt-ltb, le-ltb}
use lib.Dec.{leb}
use lib.ListN.{length, take, drop, replicate, get_or-replicate, get_or-append}
use lib.Seq.{get_or-take, get_or-drop, length-take-le}
use Rattle.std.specs.Prelude.{Option, None, Some}
use Rattle.laws.specs.Sum.{sum_to}
use Rattle.laws.specs.Scan.{scan}
use Rattle.laws.specs.Limits.{most_inflow}
use Rattle.laws.specs.Listed.{plus}
use Rattle.laws.proofs.Listed.{plus_at}
use Rattle.laws.proofs.Num.{below_or_not}
use Rattle.laws.proofs.Tests.{both_left, both_right, both_true}
use Rattle.laws.proofs.Sums.{sum_more, sum_same, sum_most}
use Rattle.laws.proofs.Scans.{scan_most, scan_same, scan_before, scan_bad, scan_is}
use Rattle.hydrograph.specs.Needs.{RoomOk}
use Rattle.sums.specs.Needs.{block_rows}
use Rattle.rows.specs.Figures.{at}
use Rattle.alter.proofs.Blocks.{stopped_some, block_end}
use Rattle.refusals.specs.Refusals.{stopped}
use Rattle.refusals.proofs.Orders.{stopped_none}
use Rattle.fitting.specs.declared.Fit.{Fit}
use Rattle.fitting.specs.Fits.{inflow_fits}
use Rattle.fitting.specs.Needs.{unfit_by, fit_by}

-- one row
pub fits : (f v : ℕ) → inflow_fits f v ≡ true → (f ≤ v) × (v ≤ most_inflow)
unfolding inflow_fits
fits f v e = (leb-true _ _ (both_left (leb f v) (leb v most_inflow) e), leb-true _ _ (both_right (leb f v) (leb v most_inflow) e))

pub fit : (f v : ℕ) → f ≤ v → v ≤ most_inflow → inflow_fits f v ≡ true
unfolding inflow_fits
fit f v l m = both_true (le-leb f v l) (le-leb v most_inflow m)

-- a sum by its first terms and the others
sum_on : (f : ℕ → ℕ) (m n : ℕ) → sum_to f (m + n) ≡ sum_to f m + sum_to (λ i. f (m + i)) n
unfolding sum_to
sum_on f m zero = let e : m + 0 ≡ m = omega arith in rw e (omega arith)
sum_on f m (suc n) = let e : m + suc n ≡ suc (m + n) = omega arith in rw e (omega (arith, sum_on f m n))

-- the first numbers of a block of zeros leave room, and with parts added they are the parts
zeros_at : (n i : ℕ) → i < n → n ≤ block_rows → at (take n (replicate block_rows 0)) i ≡ 0
zeros_at n i l m = get_or-take n (replicate block_rows 0) i 0 l ∙ get_or-replicate block_rows i 0 0 (omega arith)

pub zeros_room : (n : ℕ) → n ≤ block_rows → RoomOk (take n (replicate block_rows 0))
zeros_room n m =
    let long = length-take-le {A = ℕ} n (replicate block_rows 0) m in
    record { most = omega (arith, long); room = λ i l. rw (zeros_at n i (omega (arith, long)) m) (omega arith) }

pub zeros_plus : (f : ℕ → ℕ) (k n i : ℕ) → i < n → n ≤ block_rows → at (plus f k (take n (replicate block_rows 0))) i ≡ f (k + i)
zeros_plus f k n i l m = omega (arith, plus_at f k (take n (replicate block_rows 0)) i (omega (arith, length-take-le {A = ℕ} n (replicate block_rows 0) m)), zeros_at n i l m)

-- the rows before row i fit their parts, and `left` is what they leave
pub record Fitting (p : ℕ → ℕ) (vs : List ℕ) (left i : ℕ) : Type 0 where
  pub so_far : i ≤ length vs
  pub each : (k : ℕ) → k < i → inflow_fits (p k) (at vs k) ≡ true
  pub sums : left ≡ sum_to (λ k. at vs k - p k) i

-- parts that are the same fit alike
pub fit_same : (p q : ℕ → ℕ) (vs : List ℕ) → ((i : ℕ) → i < length vs → p i ≡ q i) → fit_by p vs ≡ fit_by q vs
fit_same p q vs e =
    let good : ℕ → Bool = λ i. inflow_fits (q i) (at vs i) in
    let bad : unfit_by p vs ≡ unfit_by q vs = scan_same (λ i. inflow_fits (p i) (at vs i)) good (length vs) 0 (λ i lo hi. ap (λ (z : ℕ). inflow_fits z (at vs i)) (e i (omega arith))) in
    let left : (fit_by p vs).left ≡ (fit_by q vs).left
    = ap (sum_to (λ i. at vs i - p i)) bad ∙ sum_same (λ i. at vs i - p i) (λ i. at vs i - q i) (unfit_by q vs) (λ i l. ap (λ (z : ℕ). at vs i - z) (e i (omega (arith, l, scan_most good (length vs) 0)))) in
    λ k. record { bad = stopped (bad k) (length vs); left = left k }

-- the place found, and the rows before it
pub fit_found : (p : ℕ → ℕ) (vs : List ℕ) → Fitting p vs (fit_by p vs).left (unfit_by p vs)
fit_found p vs =
    let good : ℕ → Bool = λ i. inflow_fits (p i) (at vs i) in
    record { so_far = omega (arith, scan_most good (length vs) 0); each = λ k l. scan_before good (length vs) 0 k (omega arith) l; sums = refl }

module _ (p : ℕ → ℕ) (vs : List ℕ) where
  -- no row was seen yet
  pub fit_start : Fitting p vs 0 0
  unfolding sum_to
  fit_start = record { so_far = omega arith; each = λ k l. absurd (omega arith); sums = refl }

  -- it is the only place with such rows before it that is bad, or the end
  found_is : (left i : ℕ) → Fitting p vs left i → (i < length vs → inflow_fits (p i) (at vs i) ≡ false) → record { bad = stopped i (length vs); left = left } ≡ fit_by p vs
  found_is left i so here =
      let good : ℕ → Bool = λ k. inflow_fits (p k) (at vs k) in
      let is : scan good (length vs) 0 ≡ i = scan_is good (length vs) i so.so_far so.each here in
      rw (is, so.sums)

  -- what is left is small
  pub fit_small : (left i : ℕ) → Fitting p vs left i → left ≤ i * most_inflow
  fit_small left i so = omega (arith, so.sums, sum_most (λ k. at vs k - p k) most_inflow i (λ k l. omega (arith, (fits (p k) (at vs k) (so.each k l)).1)))

  -- a row that does not fit ends it
  pub fit_stop : (left i : ℕ) → Fitting p vs left i → i < length vs → inflow_fits (p i) (at vs i) ≡ false → record { bad = Some i; left = left } ≡ fit_by p vs
  fit_stop left i so l t =
      let some : stopped i (length vs) ≡ Some i = rw (lt-ltb i (length vs) l) refl in
      ap (λ (o : Option ℕ). record { bad = o; left = left }) (sym some) ∙ found_is left i so (λ m. t)

  -- so does the end of the rows
  pub fit_end : (left i : ℕ) → Fitting p vs left i → length vs ≤ i → record { bad = None; left = left } ≡ fit_by p vs
  fit_end left i so l =
      let none : stopped i (length vs) ≡ None = rw (le-ltb i (length vs) l) refl in
      ap (λ (o : Option ℕ). record { bad = o; left = left }) (sym none) ∙ found_is left i so (λ m. absurd (omega (arith, m, l)))

  module _ (left i : ℕ) (so : Fitting p vs left i) where
    -- a row that fits
    pub fit_turn : i < length vs → inflow_fits (p i) (at vs i) ≡ true → Fitting p vs (left + (at vs i - p i)) (i + 1)
    fit_turn l t =
        record {
          so_far = omega arith;
          each = λ k m. ⊎_elim (λ (e : k < i). so.each k e) (λ (e : i ≤ k). let is : k ≡ i = omega arith in rw is t) (below_or_not k i);
          sums = omega (arith, so.sums, sum_more (λ k. at vs k - p k) i);
        }

    -- a block off the front of the rows still due, with its own parts, as its rows were found to fit
    module _ (front rest : List ℕ) (parts : drop i vs ≡ front ++ rest) (q : ℕ → ℕ) (part : (k : ℕ) → k < length front → q k ≡ p (i + k)) (found : Fit) (is : found ≡ fit_by q front) where
      ends : i + length front ≤ length vs
      ends = block_end vs i so.so_far front rest parts

      row : (k : ℕ) → k < length front → at front k ≡ at vs (i + k)
      row k l = sym (get_or-append front rest 0 k l) ∙ ap (λ (z : List ℕ). at z k) (sym parts) ∙ get_or-drop i vs k 0

      same : (k : ℕ) → k < length front → inflow_fits (q k) (at front k) ≡ inflow_fits (p (i + k)) (at vs (i + k))
      same k l = rw (part k l, row k l) refl

      -- the rows of the block that fit
      own : Fitting q front found.left (unfit_by q front)
      own = rw is (fit_found q front)

      on : Fitting p vs (left + found.left) (i + unfit_by q front)
      on =
          let n = unfit_by q front in
          record {
            so_far = omega (arith, own.so_far, ends);
            each = λ k m. ⊎_elim (λ (b : k < i). so.each k b)
                (λ (b : i ≤ k). let back : i + (k - i) ≡ k = omega arith in rw back at (sym (same (k - i) (omega (arith, m, b, own.so_far))) ∙ own.each (k - i) (omega (arith, m, b))))
                (below_or_not k i);
            sums = omega (
              arith,
              so.sums,
              own.sums,
              sum_on (λ k. at vs k - p k) i n,
              sum_same (λ k. at front k - q k) (λ k. at vs (i + k) - p (i + k)) n (λ k l. rw (part k (omega (arith, l, own.so_far)), row k (omega (arith, l, own.so_far))) refl),
            );
          }

      -- what is left is small
      pub block_room : left + found.left ≤ length vs * most_inflow
      block_room = omega (arith, on.so_far, fit_small (left + found.left) (i + unfit_by q front) on)

      bad_is : found.bad ≡ stopped (unfit_by q front) (length front)
      bad_is = ap (λ (z : Fit). z.bad) is

      -- all fit
      pub block_turn : found.bad ≡ None → Fitting p vs (left + found.left) (i + length front)
      block_turn none =
          let all : i + unfit_by q front ≡ i + length front = omega (arith, own.so_far, stopped_none (unfit_by q front) (length front) (sym bad_is ∙ none)) in
          subst (λ (z : ℕ). Fitting p vs (left + found.left) z) all on

      -- one does not
      pub block_stop : {k : ℕ} → found.bad ≡ Some k → record { bad = Some (i + k); left = left + found.left } ≡ fit_by p vs
      block_stop {k} here =
          let stops = stopped_some (unfit_by q front) (length front) (sym bad_is ∙ here) in
          let bad : inflow_fits (q (unfit_by q front)) (at front (unfit_by q front)) ≡ false = scan_bad (λ k. inflow_fits (q k) (at front k)) (length front) 0 (omega (arith, stops.1)) in
          rw stops.0 (fit_stop (left + found.left) (i + unfit_by q front) on (omega (arith, stops.1, ends)) (sym (same (unfit_by q front) stops.1) ∙ bad))
