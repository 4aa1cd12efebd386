-- The sums through rows and the parts between them; which rows have none. Assumes nothing.
use mathlib.Core.Path.{◌≡◌, sym, ap, ◌∙◌}
use mathlib.Core.List.{List}
use Prim.Native.Nat.{ℕ, ◌+◌, ◌-◌, ◌*◌, ◌/◌, ◌≤◌, ◌<◌}
use native.Mathlib.Nat.{mul-le-mul_left}
use native.Mathlib.Omega.{arith}
use borrow.Author.Tests.{lt-ltb}
use lib.ListN.{length, get_or}
use Rattle.laws.specs.Sum.{sum_to}
use Rattle.laws.specs.Listed.{rows_from, plus}
use Rattle.laws.proofs.Sums.{sum_le, sum_same}
use Rattle.laws.proofs.Listed.{rows_length, rows_at}
use Rattle.hydrograph.specs.InflowRows.{weights, runoff_at, term, depth_released, volume_of, volume, part}
use Rattle.hydrograph.specs.Needs.{weighed, most_depth, Below, RainOk}
use Rattle.hydrograph.proofs.Weights.{total_some, weights_least}
use Rattle.hydrograph.proofs.Released.{runoff_rises, runoff_most, runoff_last, sum_bound}
use Rattle.sums.specs.declared.Numbers.{Numbers}
use Rattle.sums.specs.Needs.{sum_of, sum_in, NumbersOk}
use Rattle.parts.specs.Needs.{part_by, volume_between, SumsOk}
use Rattle.parts.proofs.Added.{rows_alike, plus_alike}

module _ (D : ℕ) (rain : List ℕ) (own : Numbers) where
  -- how many weights, Q, the sum through a row and its volume
  abbrev pub many : ℕ
  many = weights own.peak D

  abbrev pub Q : ℕ → ℕ
  Q = runoff_at own.tenths rain

  abbrev pub sum_at : ℕ → ℕ
  sum_at = sum_of D rain own many

  abbrev pub volume_at : ℕ → ℕ
  volume_at = volume own.tenths own.area own.peak D rain

  -- it is the definition's sum: weight g below the count, and k + 1 - (g + 1) is k - g
  pub sum_is : (k : ℕ) → sum_at k ≡ sum_to (λ i. term own.tenths own.peak D rain k (i + 1)) many
  unfolding sum_of weighed
  sum_is k =
      sum_same (λ g. weighed own.peak D g * Q (k - g)) (λ g. term own.tenths own.peak D rain k (g + 1)) many
      (λ g l. let e : k + 1 - (g + 1) ≡ k - g = omega arith in rw (lt-ltb g many l, e))

  -- a list of depths from the row after `from` on
  abbrev pub depths : ℕ → ℕ → List ℕ
  depths from end = rows_from (λ (k : ℕ). runoff_at own.tenths rain (k - 0)) (from + 1) end

  depth_in : (from end i : ℕ) → i < end → get_or (depths from end) i 0 ≡ Q (from + 1 + i)
  depth_in from end i l =
      let e : from + 1 + i - 0 ≡ from + 1 + i = omega arith in
      rows_at (λ (k : ℕ). runoff_at own.tenths rain (k - 0)) (from + 1) end i l ∙ ap Q e

  pub depths_long : (from end : ℕ) → length (depths from end) ≡ end
  depths_long from end = rows_length (λ (k : ℕ). runoff_at own.tenths rain (k - 0)) (from + 1) end

  module _ (ok : NumbersOk D own) (raining : RainOk rain) where
    -- the volume through a row, of its sum
    pub through_is : (k : ℕ) → volume_of own.area (sum_at k / own.total) ≡ volume_at k
    unfolding depth_released
    through_is k =
        ap (λ (z : ℕ). volume_of own.area (z / own.total)) (sum_is k)
        ∙ ap (λ (z : ℕ). volume_of own.area (sum_to (λ i. term own.tenths own.peak D rain k (i + 1)) many / z)) ok.whole

    -- a sum never falls from row to row, and is at most 30,000,000 times the total
    sum_rises : (a b : ℕ) → a ≤ b → sum_at a ≤ sum_at b
    unfolding sum_of
    sum_rises a b l =
        sum_le (λ g. weighed own.peak D g * Q (a - g)) (λ g. weighed own.peak D g * Q (b - g)) many
        (λ g h. mul-le-mul_left (weighed own.peak D g) (runoff_rises own.tenths rain ok.curved raining (a - g) (b - g) (omega arith)))

    sum_most : (k : ℕ) → sum_at k ≤ 30000000 * own.total
    sum_most k = omega (arith, sum_is k, ok.whole, sum_bound own.tenths rain ok.curved raining D own.peak ok.timed k)

    -- sums through rows that follow each other are what volumes are worked out of
    pub sums_ok : (from n : ℕ) → SumsOk own (rows_from sum_at from n)
    sums_ok from n =
        record {
          area_most = ok.area_most;
          some = rw ok.whole (total_some D own.peak ok.timed);
          rising = λ i l. rises i (omega (arith, rows_length sum_at from n));
          limit = λ i l. rw (rows_at sum_at from n i (omega (arith, rows_length sum_at from n))) (sum_most (from + i));
        }
      where
        rises : (i : ℕ) → i + 1 < n → get_or (rows_from sum_at from n) i 0 ≤ get_or (rows_from sum_at from n) (i + 1) 0
        rises i l = rw (rows_at sum_at from n i (omega arith), rows_at sum_at from n (i + 1) l) (sum_rises (from + i) (from + (i + 1)) (omega arith))

    -- the volume between two of them is the part of the later one's row
    pub between_part : (from n i : ℕ) → i < n → volume_between own (rows_from sum_at from (n + 1)) (1 + i) ≡ part_by D rain own (from + 1 + i)
    unfolding part
    between_part from n i l =
        let e : from + (1 + i) ≡ from + 1 + i = omega arith in
        let d : from + (1 + i - 1) ≡ from + 1 + i - 1 = omega arith in
        omega (arith, own_volume (1 + i) (omega arith) ∙ ap volume_at e, own_volume (1 + i - 1) (omega arith) ∙ ap volume_at d)
      where
        own_volume : (j : ℕ) → j < n + 1 → volume_of own.area (get_or (rows_from sum_at from (n + 1)) j 0 / own.total) ≡ volume_at (from + j)
        own_volume j h = ap (λ (z : ℕ). volume_of own.area (z / own.total)) (rows_at sum_at from (n + 1) j h) ∙ through_is (from + j)

    -- so adding the volumes between them adds the parts
    pub between_parts : (from : ℕ) (vs : List ℕ) → plus (volume_between own (rows_from sum_at from (length vs + 1))) 1 vs ≡ plus (part_by D rain own) (from + 1) vs
    between_parts from vs =
        plus_alike (volume_between own (rows_from sum_at from (length vs + 1))) (part_by D rain own) 1 (from + 1) vs (λ i l. between_part from (length vs) i l)

    -- where Q at the last of some rows is Q at the first that they look at, no row after the first has a part
    pub still_part : (from n k : ℕ) → Q (from + n) ≡ Q (from + 1 - many) → from < k → k ≤ from + n → part_by D rain own k ≡ 0
    unfolding part sum_of
    still_part from n k e lo hi =
        omega (arith, ap (λ (z : ℕ). volume_of own.area (z / own.total)) same, through_is k, through_is (k - 1))
      where
        flat : (t : ℕ) → from + 1 - many ≤ t → t ≤ from + n → Q t ≡ Q (from + n)
        flat t a b =
            omega (arith, e, runoff_rises own.tenths rain ok.curved raining (from + 1 - many) t a, runoff_rises own.tenths rain ok.curved raining t (from + n) b)

        same : sum_at k ≡ sum_at (k - 1)
        same =
            sum_same (λ g. weighed own.peak D g * Q (k - g)) (λ g. weighed own.peak D g * Q (k - 1 - g)) many
            (λ g l. ap (λ (z : ℕ). weighed own.peak D g * z) (flat (k - g) (omega arith) (omega arith) ∙ sym (flat (k - 1 - g) (omega arith) (omega arith))))

    -- rows before any runoff have none
    pub dry_part : (n k : ℕ) → Q n ≡ 0 → 1 ≤ k → k ≤ n → part_by D rain own k ≡ 0
    unfolding runoff_at
    dry_part n k e lo hi =
        let z : 0 + 1 - many ≡ 0 = omega (arith, weights_least D own.peak ok.timed) in
        let s : 0 + n ≡ n = omega arith in
        still_part 0 n k (ap Q s ∙ e ∙ sym (ap Q z)) (omega arith) (omega arith)

    -- rows after the storm have none
    pub late_part : (k : ℕ) → length rain + many < k → part_by D rain own k ≡ 0
    late_part k l =
        still_part (k - 1) 1 k
        (runoff_last own.tenths rain ok.curved raining (k - 1 + 1) (omega arith) ∙ sym (runoff_last own.tenths rain ok.curved raining (k - 1 + 1 - many) (omega arith)))
        (omega arith)
        (omega arith)

    pub depths_below : (from end : ℕ) → Below (depths from end) (length (depths from end)) most_depth
    depths_below from end =
        record { each = λ i l. rw (depth_in from end i (omega (arith, depths_long from end))) (runoff_most own.tenths rain ok.curved raining (from + 1 + i)) }

    -- sums in its places, from place lead - 1 on, are those through rows from row from + lead on
    pub far_is : (from end lead n : ℕ) → many ≤ lead → 1 ≤ lead → lead + n ≤ end + 1 → rows_from (sum_in D own (depths from end) many) (lead - 1) n ≡ rows_from sum_at (from + lead) n
    unfolding sum_of sum_in
    far_is from end lead n few some l = rows_alike (sum_in D own (depths from end) many) sum_at (lead - 1) (from + lead) n each
      where
        place : (i g : ℕ) → i < n → g < many → get_or (depths from end) (lead - 1 + i - g) 0 ≡ Q (from + lead + i - g)
        place i g h m =
            let e : from + 1 + (lead - 1 + i - g) ≡ from + lead + i - g = omega arith in
            depth_in from end (lead - 1 + i - g) (omega arith) ∙ ap Q e

        each : (i : ℕ) → i < n → sum_in D own (depths from end) many (lead - 1 + i) ≡ sum_at (from + lead + i)
        each i h =
            sum_same (λ g. weighed own.peak D g * get_or (depths from end) (lead - 1 + i - g) 0) (λ g. weighed own.peak D g * Q (from + lead + i - g)) many
            (λ g m. ap (λ (z : ℕ). weighed own.peak D g * z) (place i g h m))
