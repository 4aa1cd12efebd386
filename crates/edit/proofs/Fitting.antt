-- What 16 and 17 leave: parts that can be taken from the inflow rows, and rows that can be routed. Assumes nothing.
use mathlib.Core.Path.{◌≡◌, refl, sym, ap, ◌∙◌}
use mathlib.Core.Bool.{true}
use mathlib.Core.List.{List}
use Prim.Native.Nat.{ℕ, ◌+◌, ◌-◌, ◌*◌, ◌≤◌, ◌<◌}
use native.Mathlib.Omega.{arith}
use lib.ListN.{length}
use Rattle.laws.specs.Sum.{sum_to}
use Rattle.laws.proofs.Sums.{sum_term, sum_same, sum_add}
use Rattle.laws.proofs.Scans.{scan_all, scan_most, scan_whole}
use Rattle.laws.specs.Limits.{most_rows, most_area, most_inflow}
use Rattle.laws.specs.Listed.{rows_from}
use Rattle.laws.proofs.Listed.{rows_length, rows_at}
use Rattle.curve.proofs.Mean.{composite_ok}
use Rattle.hydrograph.specs.Needs.{RainOk}
use Rattle.hydrograph.specs.InflowRows.{weights, volume_of}
use Rattle.hydrograph.proofs.Released.{released_all, parts_sum, volume_most, volume_last}
use Rattle.sums.specs.declared.Numbers.{Numbers}
use Rattle.sums.specs.Needs.{NumbersOk}
use Rattle.parts.specs.Needs.{part_by}
use Rattle.rows.specs.Needs.{InflowOk}
use Rattle.rows.specs.Routing.{total}
use Rattle.rows.specs.Figures.{at, first_forged}
use Rattle.std.specs.Prelude.{None}
use Rattle.rows.proofs.Told.{rows_ok}
use Rattle.rows.proofs.Totals.{total_sum}
use Rattle.checks.specs.Site.{Site, Rows}
use Rattle.subarea.specs.declared.Setup.{Setup}
use Rattle.subarea.specs.Records.{records_in, record_at, area_of, curve_tenths, peak_of, patches, half_of}
use Rattle.subarea.proofs.Subareas.{patches_fit}
use Rattle.inflow.specs.Inflow.{inflow_at, inflow_rows}
use Rattle.inflow.specs.Needs.{numbers_of, most_volume}
use Rattle.checks.specs.Needs.{RecordOk, ListOk}
use Rattle.refusals.specs.declared.Rule.TheVariants.{InflowRow, Forged}
use Rattle.refusals.specs.Refusals.{AllPass}
use Rattle.refusals.proofs.Orders.{first_none, stopped_none}
use Rattle.inflow.proofs.Inflows.{part_most, inflow_most}
use Rattle.alter.specs.Altering.{old_record, old_part, fresh_part, swapped, new_inflow}
use Rattle.alter.specs.Needs.{PlaceOk, PartsFit, GroundOk}
use Rattle.alter.proofs.Swapping.{swapped_length, swapped_at, part_in}
use Rattle.fitting.specs.declared.Fit.{Fit}
use Rattle.fitting.specs.Fits.{inflow_fits, first_unfit}
use Rattle.fitting.specs.Needs.{unfit_by, fit_of}
use Rattle.fitting.proofs.Fits.{fits, fit, fit_found, fit_small}
use Rattle.rewrite.specs.Needs.{new_by, SwapFit}
use Rattle.edit.specs.Needs.{found_lines, EditOk}

module _ (f : ℕ → ℕ) (vs : List ℕ) (all : first_unfit f vs ≡ length vs) where
  -- every row fits
  rows_fit_all : (i : ℕ) → i < length vs → (f (i + 1) ≤ at vs i) × (at vs i ≤ most_inflow)
  rows_fit_all i l = fits (f (i + 1)) (at vs i) (scan_all (λ j. inflow_fits (f (j + 1)) (at vs j)) (length vs) 0 (omega arith) i (omega arith) (omega arith))

  -- so its part can be taken away
  parts_fit : length vs ≤ most_rows → PartsFit f 0 vs
  parts_fit few =
      record {
        room = record { most = few; room = λ i l. omega (arith, (rows_fit_all i l).1) };
        least = λ i l. let e : 0 + 1 + i ≡ i + 1 = omega arith in rw e (rows_fit_all i l).0;
      }

  -- what is left without the parts f, and all of the parts g, are all new inflow
  left_all : (g : ℕ → ℕ) → total (swapped f g 1 vs) ≡ (fit_of f vs).left + sum_to (λ i. g (i + 1)) (length vs)
  left_all g =
      let ws = swapped f g 1 vs in
      let m = length vs in
      let rest : ℕ → ℕ = λ i. at vs i - f (i + 1) in
      total_sum ws
      ∙ ap (sum_to (at ws)) (swapped_length f g 1 vs)
      ∙ sum_same (at ws) (λ i. rest i + g (i + 1)) m (λ i l. let e : 1 + i ≡ i + 1 = omega arith in rw e at (swapped_at f g 1 vs i l))
      ∙ sum_add rest (λ i. g (i + 1)) m
      ∙ ap (λ (z : ℕ). sum_to rest z + sum_to (λ i. g (i + 1)) m) (sym all)

-- a record within its limits has numbers that parts can be worked out of
pub numbers_ok : (g : Setup) (r : List ℕ) → RecordOk g r → area_of r ≤ most_area → {own : Numbers} → own ≡ numbers_of g r → NumbersOk g.step own
numbers_ok g r ok wide e = rw e (record { curved = composite_ok (patches r) (patches_fit r ok.patched); area_most = wide; timed = ok.timed; whole = refl })

-- all that can run off it is at most 1,089,000 times its area: in the end it does
volume_room : (g : Setup) (rain r : List ℕ) → RainOk rain → RecordOk g r → most_volume (curve_tenths r) (area_of r) rain ≤ 1089000 * area_of r
volume_room g rain r raining ok =
    let curved = composite_ok (patches r) (patches_fit r ok.patched) in
    let k = length rain + weights (peak_of g r) g.step in
    let all = released_all (curve_tenths r) rain curved raining g.step (peak_of g r) ok.timed k (omega arith) in
    omega (arith, ap (volume_of (area_of r)) all, volume_most (curve_tenths r) rain curved raining g.step (peak_of g r) ok.timed (area_of r) k)

-- new inflow rows leave room
new_room : (x : Site) (k : ℕ) (r vs : List ℕ) → RainOk x.rain → RecordOk x.setup r → area_of r ≤ most_area → ((i : ℕ) → i < length vs → at vs i ≤ most_inflow) → InflowOk (new_inflow x k r vs)
new_room x k r vs raining ok wide few =
    let long = swapped_length (old_part x k) (fresh_part x r) 1 vs in
    record { small = λ i l. rw (swapped_at (old_part x k) (fresh_part x r) 1 vs i (omega (arith, long))) (omega (arith, few i (omega (arith, long)), part_most x.setup x.rain r (1 + i) raining ok)) }

module _ (x : Site) (l : Rows) (k : ℕ) (r : List ℕ) (ok : EditOk x l k r) where
  abbrev vs : List ℕ
  vs = l.inflow

  here : k - 1 < records_in x.subareas
  here = omega (arith, ok.place.listed, ok.place.last)

  -- the old record is within its limits
  pub old_ok : RecordOk x.setup (old_record x.subareas k) × (area_of (old_record x.subareas k) ≤ most_area)
  old_ok = (ok.work.basin.list.each (k - 1) here, omega (arith, ok.work.basin.list.area, sum_term (λ i. area_of (record_at x.subareas i)) (k - 1) (records_in x.subareas) here))

  -- class areas can be summed
  pub ground_ok : GroundOk x.subareas k r
  ground_ok = record { place = ok.place; patched = record { each = λ i l. (ok.work.basin.list.each i l).patched }; fresh = ok.fresh.patched }

  module _ (p : AllPass (found_lines x l k)) where
    unfit_none : first_unfit (old_part x k) l.inflow ≡ length l.inflow
    unfit_none = omega (arith, stopped_none (first_unfit (old_part x k) vs) (length vs) (first_none InflowRow _ p.0), scan_most (λ i. inflow_fits (old_part x k (i + 1)) (at vs i)) (length vs) 0)

    forged_none : first_forged (half_of x.setup) x.pond l.outflow l.storage ≡ None
    forged_none = first_none Forged (first_forged (half_of x.setup) x.pond l.outflow l.storage) p.1.0

    -- by the numbers of the old record and of the fresh one
    module _ {old own : Numbers} (was : old ≡ numbers_of x.setup (old_record x.subareas k)) (is : own ≡ numbers_of x.setup r) where
      -- the parts can be worked out, the old record's taken away, and the rows routed
      pub swap_fit : SwapFit x.setup.step x.rain x.pond old own l
      swap_fit =
          let each = rows_fit_all (old_part x k) vs unfit_none in
          let lengths = ok.work.basin.run.lengths in
          rw (was, is)
          (record {
            pond = ok.work.pond;
            raining = ok.work.basin.run.raining;
            was = numbers_ok x.setup (old_record x.subareas k) old_ok.0 old_ok.1 refl;
            is = numbers_ok x.setup r ok.fresh ok.area refl;
            parted = parts_fit (old_part x k) vs unfit_none lengths.most;
            found = record { small = λ i h. omega (arith, (each i h).1) };
            new = new_room x k r vs ok.work.basin.run.raining ok.fresh ok.area (λ i h. (each i h).1);
            rows = rows_ok (half_of x.setup) x.pond l.outflow l.storage (lengths.held_long ∙ sym lengths.out_long) (omega (arith, lengths.out_long, lengths.most)) forged_none;
            least = lengths.least;
            out_long = lengths.out_long;
          })

      -- what is left without the old record, and all that can run off the fresh one, are no less than all new inflow
      pub all_most : {left : Fit} {v : ℕ} → left ≡ fit_of (part_by x.setup.step x.rain old) l.inflow → v ≡ most_volume own.tenths own.area x.rain
          → (left.left + v ≤ 1000000000000000000) × (total (new_by x.setup.step x.rain old own l.inflow) ≤ left.left + v)
      all_most e f =
          let fresh = numbers_ok x.setup r ok.fresh ok.area {own = numbers_of x.setup r} refl in
          let most = volume_last (curve_tenths r) x.rain fresh.curved ok.work.basin.run.raining x.setup.step (peak_of x.setup r) fresh.timed (area_of r) (length vs) in
          let sums = parts_sum (curve_tenths r) x.rain fresh.curved ok.work.basin.run.raining x.setup.step (peak_of x.setup r) fresh.timed (area_of r) (length vs) in
          let small = fit_small (λ i. old_part x k (i + 1)) vs (fit_of (old_part x k) vs).left (unfit_by (λ i. old_part x k (i + 1)) vs) (fit_found (λ i. old_part x k (i + 1)) vs) in
          rw (e, f, was, is) (
            omega (arith, small, unfit_none, ok.work.basin.run.lengths.most, volume_room x.setup x.rain r ok.work.basin.run.raining ok.fresh, ok.area),
            omega (arith, left_all (old_part x k) vs unfit_none (fresh_part x r), sums, most),
          )

-- 16 passes the inflow rows of a list
module _ (x : Site) (k : ℕ) (r : List ℕ) (m : ℕ) (ok : PlaceOk x.subareas k r) (raining : RainOk x.rain) (list : ListOk x.setup x.subareas) where
  abbrev row : ℕ → ℕ
  row = inflow_at x.setup x.rain x.subareas

  row_fits : (i : ℕ) → i < m → inflow_fits (old_part x k (i + 1)) (at (rows_from row 1 m) i) ≡ true
  row_fits i l =
      let e : 1 + i ≡ i + 1 = omega arith in
      let is : at (rows_from row 1 m) i ≡ row (i + 1) = rows_at row 1 m i l ∙ ap row e in
      fit (old_part x k (i + 1)) (at (rows_from row 1 m) i) (omega (arith, is, part_in x k r m ok (i + 1))) (omega (arith, is, inflow_most x.setup x.rain x.subareas raining list (records_in x.subareas) (i + 1) (omega arith)))

  pub fit_all : first_unfit (old_part x k) (inflow_rows x.setup x.rain x.subareas m) ≡ length (inflow_rows x.setup x.rain x.subareas m)
  fit_all =
      scan_whole (λ i. inflow_fits (old_part x k (i + 1)) (at (rows_from row 1 m) i)) (length (rows_from row 1 m)) (λ i l. row_fits i (omega (arith, rows_length row 1 m)))
