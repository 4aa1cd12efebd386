-- What a pond within its limits gives: its X rise, `lower` finds the two rows around x, and the lines there keep to their limits. Assumes nothing.
use mathlib.Core.Path.{◌≡◌, ap, subst, sym}
use mathlib.Core.Bool.{Bool}
use mathlib.Core.Logic.{⊎_elim}
use mathlib.Core.List.{List}
use Prim.Native.Nat.{ℕ, ◌+◌, ◌-◌, ◌*◌, ◌≤◌, ◌<◌}
use native.Mathlib.Nat.{mul-le-mul_left, mul-le-mul, le_trans, eq-or-lt_of_le}
use native.Mathlib.Omega.{arith}
use borrow.Author.Tests.{ltb-true, ltb-false, lt-ltb, le-ltb}
use lib.Dec.{ltb}
use Rattle.laws.proofs.Num.{below_or_not}
use Rattle.laws.proofs.Scans.{scan_most, scan_bad, scan_before, scan_is}
use Rattle.pond.specs.PondRows.{rows_in, stage, discharge, sum_at, last_sum, lower, line_on, discharge_at, stage_at}
use Rattle.pond.specs.Needs.{PondOk, BetweenOk}
use Rattle.pond.proofs.Lines.{between_least, between_most, between_up, under_line}
use Rattle.pond.proofs.Halves.{rise, Stays}

-- the test of `lower`: the next row's X is below x
abbrev pub next_below : ℕ → List ℕ → ℕ → ℕ → Bool
next_below h p x i = ltb (sum_at h p (i + 1)) x

-- row i and the next are the two rows around x
pub record Around (h : ℕ) (p : List ℕ) (x i : ℕ) : Type 0 where
  pub inside : i + 1 < rows_in p
  pub low : sum_at h p i ≤ x
  pub high : x ≤ sum_at h p (i + 1)

module _ {h : ℕ} {p : List ℕ} (ok : PondOk h p) where
  -- the X rise strictly
  pub sum_up : (i : ℕ) → i + 1 < rows_in p → sum_at h p i < sum_at h p (i + 1)
  unfolding sum_at
  sum_up i l = omega (arith, ok.table.storage_up i l, mul-le-mul_left h (ok.table.discharge_up i l))

  -- so a later X is no less
  pub sum_rise : (a b : ℕ) → a ≤ b → b < rows_in p → sum_at h p a ≤ sum_at h p b
  sum_rise = rise (sum_at h p) (rows_in p) (λ i l. omega (arith, sum_up i l))

  -- an X is at most the largest storage with 1800 times the largest discharge
  pub sum_most : (i : ℕ) → i < rows_in p → sum_at h p i ≤ 1018000000000
  unfolding sum_at
  sum_most i l = omega (arith, ok.table.storages i l, mul-le-mul ok.half.most (ok.table.discharges i l))

  -- and so is the last
  pub last_most : last_sum h p ≤ 1018000000000
  last_most = sum_most (rows_in p - 1) (omega (arith, ok.table.least))

  -- the first X is 0
  pub sum_first : sum_at h p 0 ≡ 0
  unfolding sum_at
  sum_first = omega (arith, ok.table.storage_first, ap (λ (z : ℕ). h * z) ok.table.discharge_first)

  -- twice h times a row's discharge is at most its X
  pub twice_held : (i : ℕ) → i < rows_in p → 2 * h * discharge p i ≤ sum_at h p i
  unfolding sum_at
  twice_held i l = omega (arith, ok.held i l)

  -- a row whose next X is not below x is followed by such rows only
  pub lower_stays : (x : ℕ) → Stays (next_below h p x) (rows_in p - 2)
  lower_stays x a b le l f =
      le-ltb (sum_at h p (b + 1)) x (le_trans (ltb-false (sum_at h p (a + 1)) x f) (sum_rise (a + 1) (b + 1) (omega arith) (omega arith)))

  -- the lower row has one after it
  pub lower_inside : (x : ℕ) → lower h p x + 1 < rows_in p
  unfolding lower
  lower_inside x = omega (arith, scan_most (next_below h p x) (rows_in p - 2) 0, ok.table.least)

  -- each row up to the lower one, but the first, has its X below x
  pub lower_before : (x k : ℕ) → k < lower h p x → sum_at h p (k + 1) < x
  unfolding lower
  lower_before x k l = ltb-true _ _ (scan_before (next_below h p x) (rows_in p - 2) 0 k (omega arith) l)

  -- but for the last line, the row after the lower one is not below x
  pub lower_here : (x : ℕ) → lower h p x + 2 < rows_in p → x ≤ sum_at h p (lower h p x + 1)
  unfolding lower
  lower_here x l = ltb-false _ _ (scan_bad (next_below h p x) (rows_in p - 2) 0 (omega arith))

  -- and the lower row is the one row of which all that holds
  pub lower_only : (x i : ℕ) → i + 1 < rows_in p → ((k : ℕ) → k < i → sum_at h p (k + 1) < x) → (i + 2 < rows_in p → x ≤ sum_at h p (i + 1)) → i ≡ lower h p x
  unfolding lower
  lower_only x i l before here =
      sym (scan_is (next_below h p x) (rows_in p - 2) i (omega arith) (λ k b. lt-ltb _ _ (before k b)) (λ b. le-ltb _ _ (here (omega arith))))

  module _ (x : ℕ) (top : x ≤ last_sum h p) where
    from : sum_at h p (lower h p x) ≤ x
    from =
        let i = lower h p x in
        ⊎_elim
        (λ (l : 0 < i). let e : i - 1 + 1 ≡ i = omega arith in subst (λ (k : ℕ). sum_at h p k ≤ x) e (omega (arith, lower_before x (i - 1) (omega arith))))
        (λ (l : i ≤ 0). let e : 0 ≡ i = omega arith in subst (λ (k : ℕ). sum_at h p k ≤ x) e (omega (arith, sum_first)))
        (below_or_not 0 i)

    upto : x ≤ sum_at h p (lower h p x + 1)
    upto =
        let i = lower h p x in
        ⊎_elim
        (λ (l : i + 2 < rows_in p). lower_here x l)
        (λ (l : rows_in p ≤ i + 2). let e : rows_in p - 1 ≡ i + 1 = omega (arith, lower_inside x) in subst (λ (k : ℕ). x ≤ sum_at h p k) e top)
        (below_or_not (i + 2) (rows_in p))

    -- the lower row and the next are the two rows around x
    pub around : Around h p x (lower h p x)
    around = record { inside = lower_inside x; low = from; high = upto }

    -- so are a row that equals it and the next, as the code has it
    pub around_at : {i : ℕ} → i ≡ lower h p x → Around h p x i
    around_at e = rw e around

  -- a greater x has no earlier lower row
  pub lower_rise : (a b : ℕ) → a ≤ b → lower h p a ≤ lower h p b
  lower_rise a b le =
      ⊎_elim (λ (l : lower h p b < lower h p a). absurd (omega (arith, lower_here b (omega (arith, lower_inside a)), lower_before a (lower h p b) l)))
      (λ l. l)
      (below_or_not (lower h p b) (lower h p a))

  module _ (y : ℕ → ℕ) (up : (i : ℕ) → i + 1 < rows_in p → y i ≤ y (i + 1)) where
    -- a column that never falls is on its line at x no higher than at the row after the lower one
    pub line_most : (x : ℕ) → x ≤ last_sum h p → line_on h p x y (lower h p x) ≤ y (lower h p x + 1)
    line_most x top =
        let i = lower h p x in
        between_most x (sum_at h p i) (sum_at h p (i + 1)) (y i) (y (i + 1)) (around x top).high (up i (lower_inside x))

    -- nor than at the last row
    pub line_last : (x : ℕ) → x ≤ last_sum h p → line_on h p x y (lower h p x) ≤ y (rows_in p - 1)
    line_last x top =
        le_trans (line_most x top) (rise y (rows_in p) up (lower h p x + 1) (rows_in p - 1) (omega (arith, lower_inside x)) (omega (arith, lower_inside x)))

    -- and its line never falls as x rises
    pub line_rise : (a b : ℕ) → a ≤ b → b ≤ last_sum h p → line_on h p a y (lower h p a) ≤ line_on h p b y (lower h p b)
    line_rise a b le top =
        let i = lower h p a in
        let j = lower h p b in
        ⊎_elim
        (λ (e : i ≡ j). subst (λ (k : ℕ). line_on h p a y i ≤ line_on h p b y k) e (between_up a b (sum_at h p i) (sum_at h p (i + 1)) (y i) (y (i + 1)) le (sum_up i (lower_inside a))))
        (λ (l : i < j). le_trans (line_most a (le_trans le top))
        (le_trans (rise y (rows_in p) up (i + 1) j (omega arith) (omega (arith, lower_inside b))) (between_least b (sum_at h p j) (sum_at h p (j + 1)) (y j) (y (j + 1)))))
        (eq-or-lt_of_le (lower_rise a b le))

    -- the line between two rows around x is one that `line` takes, where the column is at most 10^7
    pub line_ok : (x i : ℕ) → Around h p x i → y (i + 1) ≤ 10000000 → BetweenOk x (sum_at h p i) (sum_at h p (i + 1)) (y i) (y (i + 1))
    line_ok x i a most =
        record {
          low = a.low;
          high = a.high;
          apart = sum_up i a.inside;
          rising = up i a.inside;
          wide = sum_most (i + 1) a.inside;
          tall = most;
        }

  -- the discharge never falls as x rises
  pub discharge_rise : (a b : ℕ) → a ≤ b → b ≤ last_sum h p → discharge_at h p a ≤ discharge_at h p b
  unfolding discharge_at
  discharge_rise = line_rise (discharge p) ok.table.discharge_up

  -- nor does the stage
  pub stage_rise : (a b : ℕ) → a ≤ b → b ≤ last_sum h p → stage_at h p a ≤ stage_at h p b
  unfolding stage_at
  stage_rise = line_rise (stage p) (λ i l. omega (arith, ok.table.stage_up i l))

  module _ (x : ℕ) (top : x ≤ last_sum h p) where
    -- the discharge is at most the last row's
    pub discharge_last_most : discharge_at h p x ≤ discharge p (rows_in p - 1)
    unfolding discharge_at
    discharge_last_most = line_last (discharge p) ok.table.discharge_up x top

    -- and so within its limit
    pub discharge_most : discharge_at h p x ≤ 10000000
    discharge_most = le_trans discharge_last_most (ok.table.discharges (rows_in p - 1) (omega (arith, ok.table.least)))

    -- the stage is at most the last row's
    pub stage_last_most : stage_at h p x ≤ stage p (rows_in p - 1)
    unfolding stage_at
    stage_last_most = line_last (stage p) (λ i l. omega (arith, ok.table.stage_up i l)) x top

    -- and so within its limit
    pub stage_most : stage_at h p x ≤ 1000000
    stage_most = le_trans stage_last_most (ok.table.stages (rows_in p - 1) (omega (arith, ok.table.least)))

    -- half a step at the discharge, twice, releases at most x
    pub discharge_held : 2 * h * discharge_at h p x ≤ x
    unfolding discharge_at
    discharge_held =
        let i = lower h p x in
        let a = around x top in
        under_line (2 * h) x (sum_at h p i) (sum_at h p (i + 1)) (discharge p i) (discharge p (i + 1))
        a.low a.high (sum_up i a.inside) (ok.table.discharge_up i a.inside) (twice_held i (omega (arith, a.inside))) (twice_held (i + 1) a.inside)
