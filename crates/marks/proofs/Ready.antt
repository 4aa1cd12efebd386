-- What the refusals of a mark leave. Assumes nothing.
use mathlib.Core.Path.{◌≡◌, sym, ◌∙◌}
use mathlib.Core.List.{List, [], ◌∷◌, ◌++◌}
use Prim.Native.Nat.{ℕ, ◌-◌, ◌/◌, ◌≤◌}
use native.Mathlib.Nat.{mul-le-mul}
use native.Mathlib.Omega.{arith}
use lib.ListN.{length}
use Rattle.laws.specs.Within.{within}
use Rattle.laws.specs.Limits.{most_rows}
use Rattle.laws.proofs.Tests.{kept}
use Rattle.pond.specs.PondRows.{rows_in}
use Rattle.pond.specs.Needs.{HalfOk, PondOk}
use Rattle.rows.specs.Figures.{at, first_forged}
use Rattle.rows.specs.Needs.{RowOk}
use Rattle.rows.proofs.Told.{rows_ok}
use Rattle.checks.specs.Site.{Rows, asked}
use Rattle.marks.specs.ChartMarks.{mark_lines, asked_lines, mark_order, mark_refusal}
use Rattle.checks.specs.Order.{frame_lines, last_good, pond_lines, forged_line}
use Rattle.refusals.specs.declared.Rule.TheVariants.{LastRow, Forged, Row}
use Rattle.refusals.specs.Refusals.{none, unless, first_refusal, AllPass}
use Rattle.refusals.proofs.Orders.{all_pass, both_pass, charge_none, first_none, alone, goes_on}
use Rattle.marks.specs.Needs.{MarkReady, most_exact, PointOk, MarkOk}
use Rattle.checks.proofs.Ready.{frame_ok, last_ok, half_ok, pond_fits}

-- 1, 2 and 4 leave lists of one length, a step and row numbers within their limits
pub mark_ready : (D first : ℕ) (l : Rows) → AllPass (mark_lines D first l) → MarkReady D first l
mark_ready D first l a =
    let p = both_pass (frame_lines D l) (unless LastRow (last_good first (asked l)) ∷ []) a in
    let frame = frame_ok D l p.0 in
    record { lengths = frame.0; step = frame.1; last = last_ok first (asked l) (charge_none LastRow _ 0 p.1.0) }

module _ (D first : ℕ) (p : List ℕ) (l : Rows) where
  -- 1, 2, 4, 12 and 13 leave a pond
  pub table_ok : AllPass (mark_lines D first l ++ pond_lines (D / 2) p) → MarkReady D first l × PondOk (D / 2) p
  table_ok a =
      let b = both_pass (mark_lines D first l) (pond_lines (D / 2) p) a in
      let lists = mark_ready D first l b.0 in
      (lists, pond_fits (D / 2) p (half_ok D lists.step) b.1)

  module _ (k : ℕ) where
    -- accepted: every line passes
    pub mark_passes : mark_refusal D first p l k ≡ none → AllPass (mark_order D first p l k)
    unfolding mark_refusal
    mark_passes e = all_pass (mark_order D first p l k) e

    -- 1, 2, 4, 12, 13, 18 and 17 leave a row that has a mark
    pub mark_ok : mark_refusal D first p l k ≡ none → MarkOk D first p l.outflow l.storage k
    mark_ok e =
        let h = D / 2 in
        let os = l.outflow in
        let ss = l.storage in
        let a = both_pass (mark_lines D first l ++ pond_lines (D / 2) p) (asked_lines (D / 2) p l k) (mark_passes e) in
        let r = table_ok a.0 in
        let row = kept 1 k (length os) (charge_none Row (within 1 k (length os)) 0 a.1.0) in
        record {
          pond = r.1;
          rows = rows_ok h p os ss (r.0.lengths.held_long ∙ sym r.0.lengths.out_long) (omega (arith, r.0.lengths.out_long, r.0.lengths.most)) (first_none Forged (first_forged h p os ss) a.1.1.0);
          least = row.low;
          most = row.high;
          step_most = r.0.step.most;
          last = omega (arith, r.0.lengths.out_long, r.0.last);
        }

    -- where nothing before 17 refuses, 17 decides
    pub mark_ends : none ≡ first_refusal (mark_lines D first l) → none ≡ first_refusal (pond_lines (D / 2) p) → none ≡ unless Row (within 1 k (length l.outflow))
        → forged_line (D / 2) p l ≡ mark_refusal D first p l k
    unfolding mark_refusal
    mark_ends e f g =
        let row = unless Row (within 1 k (length l.outflow)) in
        let forged = forged_line (D / 2) p l in
        sym (alone forged) ∙ goes_on (row ∷ []) (forged ∷ []) (g ∙ sym (alone row))
        ∙ goes_on (pond_lines (D / 2) p) (asked_lines (D / 2) p l k) f
        ∙ goes_on (mark_lines D first l) (pond_lines (D / 2) p ++ asked_lines (D / 2) p l k) e

-- what a function's `?` leaves, as its next call asks for it
pub half_left : (D first : ℕ) (l : Rows) → none ≡ first_refusal (mark_lines D first l) → HalfOk (D / 2)
half_left D first l e = half_ok D (mark_ready D first l (all_pass (mark_lines D first l) (sym e))).step

pub long_left : (D first : ℕ) (l : Rows) → none ≡ first_refusal (mark_lines D first l) → length l.storage ≡ length l.outflow
long_left D first l e =
    let r = mark_ready D first l (all_pass (mark_lines D first l) (sym e)) in
    r.lengths.held_long ∙ sym r.lengths.out_long

-- the outflow of a row that can be a pond's is small
pub flow_small : {h : ℕ} {p : List ℕ} {o s : ℕ} → PondOk h p → RowOk h p o s → o ≤ 10000000
flow_small {h} {p} ok row = omega (arith, row.outflow_most, ok.table.discharges (rows_in p - 1) (omega (arith, ok.table.least)))

-- so it is a double itself
pub flow_exact : {h : ℕ} {p : List ℕ} {o s : ℕ} → PondOk h p → RowOk h p o s → o ≤ most_exact
flow_exact ok row = omega (arith, flow_small ok row)

module _ {D first : ℕ} {p os ss : List ℕ} {k : ℕ} (ok : MarkOk D first p os ss k) where
  -- the row asked can be a pond's
  pub asked_ok : RowOk (D / 2) p (at os (k - 1)) (at ss (k - 1))
  asked_ok = ok.rows.each (k - 1) (omega (arith, ok.least, ok.most))

  -- and its point's three numbers are doubles themselves
  pub point_ok : PointOk D first k (at os (k - 1))
  point_ok =
      let few : k ≤ most_rows = omega (arith, ok.most, ok.rows.few) in
      record {
        least = ok.least;
        number = omega (arith, ok.most, ok.last);
        time = omega (arith, mul-le-mul few ok.step_most);
        flow = flow_exact ok.pond asked_ok;
      }
