-- The loops over the subareas: times to peak and sums of weights listed, rows made of them, and all that runs off. Assumes nothing.
use mathlib.Core.Path.{◌≡◌, refl, sym, ap, ◌∙◌}
use mathlib.Core.Logic.{◌⊎◌, inl, inr}
use mathlib.Core.List.{List, []}
use Prim.Native.Nat.{ℕ, ◌+◌, ◌-◌, ◌*◌, ◌≤◌, ◌<◌}
use native.Mathlib.Nat.{mul-le-mul_left}
use native.Mathlib.Omega.{arith}
use lib.ListN.{length, get_or, drop, set, length-set, length-drop, length-append, get_or-append}
use lib.Seq.{ext_get_or, get_or-drop, get_or-append-add, get_or-set_other}
use Rattle.laws.specs.Sum.{sum_to}
use Rattle.laws.specs.Filled.{Filled}
use Rattle.laws.specs.Limits.{most_inflow}
use Rattle.laws.specs.Listed.{rows_from, plus}
use Rattle.laws.proofs.Num.{below_or_not}
use Rattle.laws.proofs.Sums.{sum_more}
use Rattle.laws.proofs.Fill.{filled_none, filled_more}
use Rattle.laws.proofs.Listed.{rows_length, rows_at}
use Rattle.curve.proofs.Mean.{composite_ok}
use Rattle.runoff.proofs.Rising.{depth_bound}
use Rattle.hydrograph.specs.InflowRows.{total_weight, weights, volume_of}
use Rattle.hydrograph.specs.Needs.{RainOk, TimingOk}
use Rattle.hydrograph.proofs.Weights.{weights_most, total_to}
use Rattle.hydrograph.proofs.Room.{parts_most}
use Rattle.sums.specs.declared.Numbers.{Numbers}
use Rattle.sums.specs.Needs.{NumbersOk}
use Rattle.parts.specs.Needs.{part_by}
use Rattle.subarea.specs.declared.Setup.{Setup}
use Rattle.subarea.specs.Records.{records_in, record_at, area_of, curve_tenths, patches}
use Rattle.subarea.proofs.Subareas.{RecordAt, listed, listed_at, patches_fit}
use Rattle.checks.specs.Needs.{ListOk}
use Rattle.inflow.specs.Needs.{numbers_with, numbers_of, most_volume}
use Rattle.inflow.proofs.Inflows.{own_numbers, PartsIn, parts_turn}
use Rattle.listing.specs.declared.Shapes.{Shapes}
use Rattle.listing.specs.Needs.{peak_at, total_at, written_over, Listed, most_of}

-- a time to peak and a sum of weights are less than 2^32, so that each is listed narrow
pub peak_narrow : (D Tp : ℕ) → TimingOk D Tp → Tp < 4294967296
peak_narrow D Tp ok = omega (arith, ok.short, ok.step_most)

pub total_narrow : (D Tp : ℕ) → TimingOk D Tp → total_weight Tp D < 4294967296
unfolding total_weight
total_narrow D Tp ok = omega (arith, weights_most D Tp ok, total_to D Tp ok (weights Tp D) (omega arith))

-- what is written over a list stands there
over_filled : (f : ℕ → ℕ) (n : ℕ) (l : List ℕ) → Filled f n (written_over f n l)
over_filled f n l =
    record { each = λ i h. let e : 0 + i ≡ i = omega arith in get_or-append (rows_from f 0 n) (drop n l) 0 i (omega (arith, rows_length f 0 n)) ∙ rows_at f 0 n i h ∙ ap f e }

-- a list of which the first i numbers were written over with f 0 to f (i - 1)
pub record Written (f : ℕ → ℕ) (first l : List ℕ) (i : ℕ) : Type 0 where
  pub long : length l ≡ length first
  pub filled : Filled f i l
  pub due : (j : ℕ) → i ≤ j → get_or l j 0 ≡ get_or first j 0

module _ (f : ℕ → ℕ) (first : List ℕ) where
  pub written_start : Written f first first 0
  written_start = record { long = refl; filled = filled_none f first; due = λ j h. refl }

  module _ {l : List ℕ} {i : ℕ} (so : Written f first l i) where
    pub written_turn : {v : ℕ} → i < length first → v ≡ f i → Written f first (set l i v) (i + 1)
    written_turn {v} h e =
        record {
          long = simp length-set so.long;
          filled = filled_more f i l v (omega (arith, so.long)) so.filled e;
          due = λ j k. get_or-set_other l i j v 0 (omega arith) ∙ so.due j (omega arith);
        }

    pub written_end : i ≤ length first → l ≡ written_over f i first
    written_end h =
        ext_get_or 0 l (written_over f i first) (omega (arith, so.long, length-append (rows_from f 0 i) (drop i first), rows_length f 0 i, length-drop i first)) (λ j k. each j (below_or_not j i))
      where
        each : (j : ℕ) → (j < i) ⊎ (i ≤ j) → get_or l j 0 ≡ get_or (written_over f i first) j 0
        each j (inl k) = so.filled.each j k ∙ sym ((over_filled f i first).each j k)
        each j (inr k) =
            let there : i + (j - i) ≡ j = omega arith in
            so.due j k
            ∙ ap (λ (z : ℕ). get_or first z 0) (sym there)
            ∙ sym (get_or-drop i first (j - i) 0)
            ∙ sym (get_or-append-add (rows_from f 0 i) (drop i first) (j - i) 0)
            ∙ ap (λ (z : ℕ). get_or (written_over f i first) (z + (j - i)) 0) (rows_length f 0 i)
            ∙ ap (λ (z : ℕ). get_or (written_over f i first) z 0) there

module _ (g : Setup) (s : List ℕ) where
  -- the invariant of the loop that lists both, before subarea i
  pub record Listing (peaks₀ totals₀ peaks totals : List ℕ) (i : ℕ) : Type 0 where
    pub so_far : i ≤ records_in s
    pub peaked : Written (peak_at g s) peaks₀ peaks i
    pub weighed : Written (total_at g s) totals₀ totals i

  module _ (peaks₀ totals₀ : List ℕ) where
    pub list_start : Listing peaks₀ totals₀ peaks₀ totals₀ 0
    list_start = record { so_far = omega arith; peaked = written_start (peak_at g s) peaks₀; weighed = written_start (total_at g s) totals₀ }

    module _ {peaks totals : List ℕ} {i : ℕ} (so : Listing peaks₀ totals₀ peaks totals i) (few : records_in s ≤ length peaks₀) (too : records_in s ≤ length totals₀) where
      pub list_turn : {peak total : ℕ} → i < records_in s → peak ≡ peak_at g s i → total ≡ total_at g s i → Listing peaks₀ totals₀ (set peaks i peak) (set totals i total) (i + 1)
      list_turn l p t =
          record {
            so_far = omega arith;
            peaked = written_turn (peak_at g s) peaks₀ so.peaked (omega (arith, few)) p;
            weighed = written_turn (total_at g s) totals₀ so.weighed (omega (arith, too)) t;
          }

      pub list_end : records_in s ≤ i → (peaks ≡ written_over (peak_at g s) (records_in s) peaks₀) × (totals ≡ written_over (total_at g s) (records_in s) totals₀)
      list_end l =
          let all : i ≡ records_in s = omega (arith, so.so_far) in
          (rw all at (written_end (peak_at g s) peaks₀ so.peaked (omega (arith, so.so_far, few))), rw all at (written_end (total_at g s) totals₀ so.weighed (omega (arith, so.so_far, too))))

  -- lists so written have both of each subarea
  pub lists_have : {shapes : Shapes} (peaks₀ totals₀ : List ℕ) → shapes.peaks ≡ written_over (peak_at g s) (records_in s) peaks₀ → shapes.totals ≡ written_over (total_at g s) (records_in s) totals₀ → Listed g s shapes
  lists_have peaks₀ totals₀ p t =
      record { peaked = rw p (over_filled (peak_at g s) (records_in s) peaks₀); weighed = rw t (over_filled (total_at g s) (records_in s) totals₀) }

  -- a subarea's numbers, as the lists have them, are its own
  module _ {shapes : Shapes} (l : Listed g s shapes) {records : List (List ℕ)} (f : records ≡ listed s) {i : ℕ} (t : i < length records) {own : Numbers} (e : own ≡ numbers_with (get_or records i []) (get_or shapes.peaks i 0) (get_or shapes.totals i 0)) where
    abbrev a : RecordAt s records i
    a = listed_at f t

    abbrev h : i < records_in s
    h = a.inside

    listed_own : own ≡ numbers_of g (record_at s i)
    listed_own =
        e
        ∙ ap (λ (r : List ℕ). numbers_with r (get_or shapes.peaks i 0) (get_or shapes.totals i 0)) a.own
        ∙ ap (λ (z : ℕ). numbers_with (record_at s i) z (get_or shapes.totals i 0)) (l.peaked.each i h)
        ∙ ap (numbers_with (record_at s i) (peak_at g s i)) (l.weighed.each i h)

    -- so its parts can be worked out, and with them the rows have one subarea more
    pub listed_ok : ListOk g s → NumbersOk g.step own
    listed_ok ok = rw listed_own (own_numbers g s ok i h)

    pub listed_turn : (rain : List ℕ) (first m : ℕ) {rows new : List ℕ} → PartsIn g rain s first m rows i → new ≡ plus (part_by g.step rain own) first rows → PartsIn g rain s first m new (i + 1)
    listed_turn rain first m {rows} so d = parts_turn g rain s first m so h (d ∙ ap (λ (z : Numbers). plus (part_by g.step rain z) first rows) listed_own)

-- the invariant of the loop that makes the rows in lent lists, before subarea i
pub record Filling (g : Setup) (rain s : List ℕ) (m : ℕ) (inflow outflow storage : List ℕ) (i : ℕ) : Type 0 where
  pub rows : PartsIn g rain s 1 m inflow i
  pub out_long : length outflow ≡ m
  pub held_long : length storage ≡ m

module _ (rain s : List ℕ) where
  -- all that runs off subarea i
  abbrev runs : ℕ → ℕ
  runs i = most_volume (curve_tenths (record_at s i)) (area_of (record_at s i)) rain

  -- the invariant of the loop that sums it, before subarea i
  pub record Running (all i : ℕ) : Type 0 where
    pub so_far : i ≤ records_in s
    pub sums : all ≡ sum_to runs i

  pub run_start : Running 0 0
  unfolding sum_to
  run_start = record { so_far = omega arith; sums = refl }

  module _ {all i : ℕ} (so : Running all i) where
    pub run_turn : {own : ℕ} → i < records_in s → own ≡ runs i → Running (all + own) (i + 1)
    run_turn l e = record { so_far = omega arith; sums = omega (arith, so.sums, e, sum_more runs i) }

    pub run_end : records_in s ≤ i → all ≡ most_of rain s
    run_end l = let ends : i ≡ records_in s = omega (arith, so.so_far) in so.sums ∙ ap (sum_to runs) ends

  module _ (g : Setup) (raining : RainOk rain) (ok : ListOk g s) where
    -- what runs off a subarea is at most 1,089,000 times its area
    runs_most : (j : ℕ) → j < records_in s → runs j ≤ 1089000 * area_of (record_at s j)
    unfolding volume_of
    runs_most j l =
        let c = curve_tenths (record_at s j) in
        let last = get_or rain (length rain - 1) 0 in
        let curve = composite_ok (patches (record_at s j)) (patches_fit (record_at s j) (ok.each j l).patched) in
        omega (arith, mul-le-mul_left (363 * area_of (record_at s j)) (depth_bound c curve last (raining.limit (length rain - 1) (omega (arith, raining.least)))))

    -- so what runs off the first i is no more than an inflow row may be
    runs_sum : (i : ℕ) → i ≤ records_in s → sum_to runs i ≤ most_inflow
    runs_sum i l = parts_most (records_in s) (λ j. area_of (record_at s j)) (λ j k. runs j) ok.area (λ j k h. runs_most j h) i 0 l

    pub most_of_lem : most_of rain s ≤ most_inflow
    most_of_lem = runs_sum (records_in s) (omega arith)

  pub run_most : {all i : ℕ} → Running all i → (g : Setup) → RainOk rain → ListOk g s → all ≤ most_inflow
  run_most {all} {i} so g raining ok = omega (arith, so.sums, runs_sum g raining ok i so.so_far)
