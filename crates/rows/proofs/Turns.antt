-- The loops that tally rows: the invariant of each, and a law for each of its needs. Assumes nothing.
use mathlib.Core.Path.{◌≡◌, refl, sym, ap, ◌∙◌}
use mathlib.Core.List.{List}
use Prim.Native.Nat.{ℕ, ◌+◌, ◌-◌, ◌*◌, ◌≤◌, ◌<◌}
use native.Mathlib.Nat.{mul-le-mul_right}
use native.Mathlib.Omega.{arith}
use borrow.Author.Tests.{eqb-false, ne_eqb, lt-ltb, le-ltb}
use lib.ListN.{length, take}
use lib.Dec.{eqb}
use Rattle.std.specs.Prelude.{None, Some}
use Rattle.laws.specs.Sum.{sum_to}
use Rattle.laws.proofs.Sums.{sum_most}
use Rattle.laws.proofs.Tests.{by_test}
use Rattle.pond.specs.PondRows.{last_sum, arrived, settled, next}
use Rattle.pond.specs.Needs.{PondOk, StateOk}
use Rattle.pond.specs.declared.State.{State}
use Rattle.pond.proofs.Sums.{last_most}
use Rattle.rows.specs.declared.Tally.{Tally}
use Rattle.rows.specs.declared.Dry.{Dry}
use Rattle.rows.specs.declared.RowFigures.{RowFigures}
use Rattle.rows.specs.Routing.{end_of, outflow_of, outflows, storages, passed, over_row}
use Rattle.rows.specs.Needs.{dry_of, InflowOk, row_sum, tally_to, tally_none, tally_with, kept_of, TurnOk, SumsOk, RoomOk, RowsBefore, RowsOk}
use Rattle.rows.specs.Figures.{at, before, release_at, kept_to, figures_of}
use Rattle.rows.proofs.Totals.{inflow_most}
use Rattle.rows.proofs.Prefix.{passed_most}
use Rattle.rows.proofs.Columns.{column_at, end_more, before_at}
use Rattle.rows.proofs.Keeping.{max_most, tally_more, tally_none_lem, kept_told}
use Rattle.rows.proofs.Reached.{pass_more, pass_stop, reach_ok, row_stands, row_sum_lem}

-- half a step of the outflow before a row is small, where it is of those before it
earlier : (h o : ℕ) (os : List ℕ) (n : ℕ) → h * o ≤ 1018000000000 → ((i : ℕ) → i < n → h * at os i ≤ 1018000000000) → h * before o os n ≤ 1018000000000
earlier h o os n first each =
    by_test (λ (z : ℕ). h * z ≤ 1018000000000) (eqb n 0) o (at os (n - 1)) (λ t. first) (λ t. each (n - 1) (omega (arith, eqb-false n 0 t)))

-- what rows release, where each half step is small
released_sum : (h o : ℕ) (os : List ℕ) (n : ℕ) → h * o ≤ 1018000000000 → ((i : ℕ) → i < n → h * at os i ≤ 1018000000000)
    → sum_to (release_at h o os) n ≤ n * 3000000000000
released_sum h o os n first each = sum_most (release_at h o os) 3000000000000 n (λ i l. omega (arith, each i l, earlier h o os i first (λ k m. each k (omega arith))))

-- the same of the figures
pub released_to : (h : ℕ) (p : List ℕ) (o : ℕ) (os ss : List ℕ) (n : ℕ) → n ≤ 2000 → h * o ≤ 1018000000000 → ((i : ℕ) → i < n → h * at os i ≤ 1018000000000)
    → (kept_to h p o os ss n).released ≤ 10000000000000000
unfolding kept_to
released_to h p o os ss n few first each = omega (arith, released_sum h o os n first each)

-- two flows whose half steps are small, and a tally that is, leave room for a row
pub turn_ok : (f : Tally) (h v b q : ℕ) → 30 ≤ h → h * b ≤ 1018000000000 → h * q ≤ 1018000000000 → v ≤ 1000000000000000 → f.inflow ≤ 2000000000000000000 → f.released ≤ 10000000000000000 → TurnOk f h v b q
turn_ok f h v b q least hb hq come brought released =
    record {
      flows = omega (arith, mul-le-mul_right b least, mul-le-mul_right q least);
      release = omega arith;
      released_most = released;
      come = come;
      inflow_most = brought;
    }

-- rows whose half steps are small leave room for one more
tally_room : (h o : ℕ) (vs os ss : List ℕ) (n q : ℕ) → 30 ≤ h → InflowOk vs → n ≤ 2000 → n < length vs → h * o ≤ 1018000000000 → ((i : ℕ) → i < n → h * at os i ≤ 1018000000000)
    → h * q ≤ 1018000000000 → TurnOk (tally_to h o vs os ss n) h (at vs n) (before o os n) q
unfolding tally_to
tally_room h o vs os ss n q least come few l first each hq =
    turn_ok (tally_to h o vs os ss n) h (at vs n) (before o os n) q least (earlier h o os n first each) hq (come.small n l)
    (omega (arith, inflow_most vs n come (omega arith))) (omega (arith, released_sum h o os n first each))

-- standing rows leave room for n more
pub tally_rest : (h : ℕ) (vs os ss : List ℕ) (a n : ℕ) → SumsOk h os ss a → InflowOk vs → a ≤ length vs → a + n ≤ 2000 → RoomOk (tally_to h 0 vs os ss a) a n
unfolding tally_to
tally_rest h vs os ss a n sums come l few =
    record {
      few = few;
      inflow_most = inflow_most vs a come l;
      released_most = released_sum h 0 os a (omega arith) (λ i k. omega (arith, sums.each i k));
    }

-- a dry run before row i (from 0)
pub record Drying (h : ℕ) (p : List ℕ) (st : State) (vs : List ℕ) (last : State) (tally : Tally) (i : ℕ) : Type 0 where
  pub so_far : i ≤ passed h p st vs
  pub reached : last ≡ end_of h p st (take i vs)
  pub figures : tally ≡ tally_to h st.outflow vs (outflows h p st vs) (storages h p st vs) i

module _ {h : ℕ} {p : List ℕ} (ok : PondOk h p) (st : State) (vs : List ℕ) (so : StateOk h p st) (come : InflowOk vs) (few : length vs ≤ 2000) where
  abbrev os : List ℕ
  os = outflows h p st vs

  abbrev ss : List ℕ
  ss = storages h p st vs

  pub dry_start : Drying h p st vs st tally_none 0
  unfolding end_of
  dry_start = record { so_far = omega arith; reached = refl; figures = sym (tally_none_lem h st.outflow vs os ss) }

  -- a row that passes, from the state that the rows before it reach
  turn_at : (i : ℕ) → i ≤ passed h p st vs → i < length vs → arrived h (end_of h p st (take i vs)) (at vs i) ≤ last_sum h p
      → Drying h p st vs (next h p (end_of h p st (take i vs)) (at vs i))
      (tally_with (tally_to h st.outflow vs os ss i) h (at vs i) (end_of h p st (take i vs)).outflow (next h p (end_of h p st (take i vs)) (at vs i)).outflow (arrived h (end_of h p st (take i vs)) (at vs i)) (i + 1)) (i + 1)
  turn_at i so_far l top =
      let more : i < passed h p st vs = pass_more h p st i vs so_far l top in
      record {
        so_far = omega arith;
        reached = sym (end_more h p st i vs l);
        figures = sym (tally_more h st.outflow vs os ss i ∙ (rw (row_sum_lem ok st vs so i more, before_at h p st i vs (omega arith), column_at h p outflow_of st i vs l)));
      }

  module _ (last : State) (tally : Tally) (i : ℕ) (d : Drying h p st vs last tally i) where
    -- its state is a good one
    pub dry_ok : StateOk h p last
    dry_ok = rw d.reached (reach_ok ok st i vs so d.so_far)

    -- X of each row before it is not above the last
    under : (j : ℕ) → j < i → row_sum h os ss j ≤ last_sum h p
    under j l = (row_stands ok st vs so j (omega (arith, d.so_far))).within_last

    -- there is room for the next row
    pub dry_room : (x : ℕ) → StateOk h p (settled h p x) → i < length vs → TurnOk tally h (at vs i) last.outflow (settled h p x).outflow
    dry_room x ns l =
        rw (d.figures, d.reached, ← before_at h p st i vs (omega arith))
        (tally_room h st.outflow vs os ss i (settled h p x).outflow ok.half.least come (omega arith) l (omega (arith, so.within_last, last_most ok))
        (λ j k. omega (arith, under j k, last_most ok)) (omega (arith, ns.within_last, last_most ok)))

    -- a row that passes
    pub dry_turn : i < length vs → arrived h last (at vs i) ≤ last_sum h p
        → Drying h p st vs (next h p last (at vs i)) (tally_with tally h (at vs i) last.outflow (next h p last (at vs i)).outflow (arrived h last (at vs i)) (i + 1)) (i + 1)
    dry_turn l top = rw (d.reached, d.figures) (turn_at i d.so_far l (rw d.reached at top))

    -- its greatest X is not above the last
    pub dry_most : tally.most ≤ last_sum h p
    unfolding tally_to
    dry_most = rw d.figures (max_most (row_sum h os ss) (last_sum h p) i under)

    -- a row that goes over
    pub dry_over : last_sum h p < arrived h last (at vs i) → i < length vs → ◌≡◌ {A = Dry} (record { over = Some i; kept = kept_of h p tally i; last = last }) (dry_of h p st vs)
    unfolding over_row dry_of
    dry_over t l =
        let e = pass_stop h p st i vs d.so_far (rw d.reached at t) in
        rw (e, lt-ltb i (length vs) l, d.reached, d.figures, kept_told ok st.outflow vs os ss i under)

    -- no row is left
    pub dry_end : length vs ≤ i → ◌≡◌ {A = Dry} (record { over = None; kept = kept_of h p tally i; last = last }) (dry_of h p st vs)
    unfolding over_row dry_of
    dry_end l =
        let e : passed h p st vs ≡ i = omega (arith, d.so_far, passed_most h p st vs) in
        rw (e, le-ltb i (length vs) l, d.reached, d.figures, kept_told ok st.outflow vs os ss i under)

-- the tally of standing rows before row i
pub record Tallying (h : ℕ) (vs os ss : List ℕ) (a flow : ℕ) (tally : Tally) (i : ℕ) : Type 0 where
  pub so_far : i ≤ a
  pub old : flow ≡ before 0 os i
  pub figures : tally ≡ tally_to h 0 vs os ss i

-- rows that can be a pond's have small X
pub sums_ok : {h : ℕ} {p os ss : List ℕ} {a : ℕ} → PondOk h p → RowsBefore h p os ss a → SumsOk h os ss a
sums_ok ok rows = record { least = ok.half.least; each = λ i l. omega (arith, (rows.each i l).within_last, last_most ok) }

-- rows that all pass pass before any row
pub rows_before : {h : ℕ} {p os ss : List ℕ} → RowsOk h p os ss → (a : ℕ) → a ≤ length os → RowsBefore h p os ss a
rows_before rows a l = record { each = λ i k. rows.each i (omega arith) }

-- before the first row there is nothing to ask
pub rows_none : (h : ℕ) (p os ss : List ℕ) → RowsBefore h p os ss 0
rows_none h p os ss = record { each = λ i l. absurd (omega arith) }

module _ (h : ℕ) (vs os ss : List ℕ) (a : ℕ) (sums : SumsOk h os ss a) (come : InflowOk vs) (few : a ≤ 2000) (long : a ≤ length vs) where
  pub tally_start : Tallying h vs os ss a 0 tally_none 0
  tally_start = record { so_far = omega arith; old = refl; figures = sym (tally_none_lem h 0 vs os ss) }

  module _ (flow : ℕ) (tally : Tally) (i : ℕ) (f : Tallying h vs os ss a flow tally i) where
    pub tally_fits : i < a → TurnOk tally h (at vs i) flow (at os i)
    tally_fits l =
        rw (f.figures, f.old)
        (tally_room h 0 vs os ss i (at os i) sums.least come (omega arith) (omega arith) (omega arith) (λ j k. omega (arith, sums.each j (omega arith))) (omega (arith, sums.each i l)))

    pub tally_turn : i < a → Tallying h vs os ss a (at os i) (tally_with tally h (at vs i) flow (at os i) (row_sum h os ss i) (i + 1)) (i + 1)
    tally_turn l =
        let back : i + 1 - 1 ≡ i = omega arith in
        record {
          so_far = omega arith;
          old = rw (ne_eqb (i + 1) 0 (omega arith), back);
          figures = rw (f.figures, f.old) (sym (tally_more h 0 vs os ss i));
        }

    pub tally_end : a ≤ i → tally ≡ tally_to h 0 vs os ss a
    tally_end l = let ends : i ≡ a = omega (arith, f.so_far) in f.figures ∙ ap (tally_to h 0 vs os ss) ends

-- what the tally of all rows tells are their figures
pub figures_told : {h : ℕ} {p : List ℕ} (ok : PondOk h p) (vs os ss : List ℕ) → RowsOk h p os ss → length vs ≡ length os → (tally : Tally) → tally ≡ tally_to h 0 vs os ss (length os)
    → ◌≡◌ {A = RowFigures} (record { inflow = tally.inflow; storage = at ss (length os - 1); kept = kept_of h p tally (length os) }) (figures_of h p vs os ss)
unfolding figures_of tally_to
figures_told {h} {p} ok vs os ss rows long tally e =
    let last : length os - 1 ≡ length ss - 1 = omega (arith, rows.long) in
    let total = ap (λ (t : Tally). t.inflow) e ∙ ap (sum_to (at vs)) (sym long) in
    let kept = ap (λ (t : Tally). kept_of h p t (length os)) e ∙ kept_told ok 0 vs os ss (length os) (λ i l. (rows.each i l).within_last) in
    λ j. record { inflow = total j; storage = ap (at ss) last j; kept = kept j }

-- and its greatest X is not above the last
pub tally_most : {h : ℕ} {p os ss : List ℕ} {n : ℕ} (vs : List ℕ) (tally : Tally) → RowsBefore h p os ss n → tally ≡ tally_to h 0 vs os ss n → tally.most ≤ last_sum h p
unfolding tally_to
tally_most {h} {p} {os} {ss} {n} vs tally rows e = rw e (max_most (row_sum h os ss) (last_sum h p) n (λ i l. (rows.each i l).within_last))
