-- The first changed row, and the rows before and from it on. Assumes nothing.
use mathlib.Core.Path.{◌≡◌, sym, ap, ◌∙◌}
use mathlib.Core.Logic.{⊎_elim}
use mathlib.Core.List.{List, ◌++◌}
use Prim.Native.Nat.{ℕ, zero, suc, ◌+◌, ◌-◌, ◌*◌, ◌≤◌, ◌<◌}
use native.Mathlib.Omega.{arith}
use borrow.Author.Tests.{eqb-true, eqb-false, ne_eqb}
use lib.Dec.{eqb}
use lib.ListN.{length, take, drop, take-append-drop, length-drop, length-append, get_or-append}
use lib.Seq.{ext_get_or, get_or-take, get_or-append-add, length-take-le}
use borrow.Rule.Slice.PartMut.{put_mid}
use Rattle.laws.proofs.Num.{below_or_not}
use Rattle.laws.proofs.Fill.{tail_back}
use Rattle.laws.proofs.Scans.{scan_most, scan_before, scan_bad}
use Rattle.pond.specs.PondRows.{rows_in}
use Rattle.pond.specs.Needs.{PondOk, StateOk}
use Rattle.pond.specs.declared.State.{State}
use Rattle.pond.proofs.Steps.{empty_ok}
use Rattle.pond.proofs.Sums.{last_most}
use Rattle.rows.specs.Routing.{outflow_of, storage_of, outflows, storages, passed, state_before, total}
use Rattle.rows.specs.Figures.{at, kept_to, figures_of}
use Rattle.rows.specs.Needs.{RowOk, RowsOk}
use Rattle.rows.proofs.Columns.{column_length}
use Rattle.rows.proofs.Keeping.{max_most}
use Rattle.rows.proofs.Turns.{released_to}
use Rattle.rows.proofs.Reached.{rows_stand}
use Rattle.rows.proofs.Totals.{total_split}
use Rattle.checks.specs.Site.{Rows}
use Rattle.alter.specs.Altering.{first_changed, outflows_from, storages_from}
use Rattle.rewrite.specs.Needs.{SmallOk}

-- rows whose lists are the same are
pub rows_equal : {a b : Rows} → a.inflow ≡ b.inflow → a.outflow ≡ b.outflow → a.storage ≡ b.storage → a ≡ b
rows_equal p q s = λ i. record { inflow = p i; outflow = q i; storage = s i }

module _ (vs ws : List ℕ) where
  -- it is a row, or their number
  pub changed_most : first_changed vs ws ≤ length vs
  unfolding first_changed
  changed_most = omega (arith, scan_most (λ i. eqb (at vs i) (at ws i)) (length vs) 0)

  -- no row before it differs
  pub changed_before : (i : ℕ) → i < first_changed vs ws → at vs i ≡ at ws i
  unfolding first_changed
  changed_before i l = eqb-true (at vs i) (at ws i) (scan_before (λ j. eqb (at vs j) (at ws j)) (length vs) 0 i (omega arith) l)

  -- it does
  pub changed_here : first_changed vs ws < length vs → at vs (first_changed vs ws) ≡ at ws (first_changed vs ws) → ⊥
  unfolding first_changed
  changed_here l =
      eqb-false (at vs (first_changed vs ws)) (at ws (first_changed vs ws)) (scan_bad (λ j. eqb (at vs j) (at ws j)) (length vs) 0 (omega arith))

  module _ (long : length ws ≡ length vs) where
    -- the rows before it are the same
    pub changed_front : take (first_changed vs ws) vs ≡ take (first_changed vs ws) ws
    changed_front =
        let a = first_changed vs ws in
        let fv = length-take-le a vs changed_most in
        let fw = length-take-le a ws (omega (arith, long, changed_most)) in
        ext_get_or 0 (take a vs) (take a ws) (fv ∙ sym fw)
        (λ i l. get_or-take a vs i 0 (omega (arith, fv)) ∙ changed_before i (omega (arith, fv)) ∙ sym (get_or-take a ws i 0 (omega (arith, fv))))

    -- none differs: all rows are
    pub changed_none : first_changed vs ws ≡ length vs → vs ≡ ws
    changed_none e = ext_get_or 0 vs ws (sym long) (λ i l. changed_before i (omega (arith, e)))

    -- the new rows from there on, after the rows before as they were, are all new rows
    pub changed_tail : take (first_changed vs ws) vs ++ drop (first_changed vs ws) ws ≡ ws
    changed_tail = ap (λ (l : List ℕ). l ++ drop (first_changed vs ws) ws) changed_front ∙ take-append-drop (first_changed vs ws) ws

    -- such a tail written over the old rows leaves all new rows
    pub tail_written : (a : ℕ) (tail : List ℕ) → a ≡ first_changed vs ws → tail ≡ drop a ws → put_mid a (length vs - a) vs tail ≡ ws
    tail_written a tail e f = tail_back vs tail a ∙ ap (λ (l : List ℕ). take a vs ++ l) f ∙ ap (λ (z : ℕ). take z vs ++ drop z ws) e ∙ changed_tail

    -- the inflow before it, and the new inflow from there on, are all new inflow
    pub changed_total : total (take (first_changed vs ws) vs) + total (drop (first_changed vs ws) ws) ≡ total ws
    changed_total = ap (λ (l : List ℕ). total l + total (drop (first_changed vs ws) ws)) changed_front ∙ sym (total_split (first_changed vs ws) ws)

module _ {h : ℕ} {p : List ℕ} (pond : PondOk h p) (os ss : List ℕ) (ok : RowsOk h p os ss) where
  -- the state before a row, as rows that can be a pond's have it
  pub before_ok : (a : ℕ) → a ≤ length os → StateOk h p (state_before os ss a)
  unfolding state_before
  before_ok zero l = empty_ok h p
  before_ok (suc a) l =
      let back : suc a - 1 ≡ a = omega arith in
      rw (ne_eqb (suc a) 0 (omega arith), back) (record { covers = (ok.each a l).covers; within_last = (ok.each a l).within_last })

  -- figures of such rows have room for a difference
  pub figures_small : (vs : List ℕ) → SmallOk (figures_of h p vs os ss)
  unfolding figures_of kept_to
  figures_small vs =
      let top : (i : ℕ) → i < length os → h * at os i ≤ 1018000000000 = λ i l. omega (arith, (ok.each i l).covers, (ok.each i l).within_last, last_most pond) in
      record {
        peak_most = max_most (at os) 1000000000000000000 (length os) (λ i l. omega (arith, (ok.each i l).outflow_most, pond.table.discharges (rows_in p - 1) (omega (arith, pond.table.least))));
        released_most = omega (arith, released_to h p 0 os ss (length os) ok.few (omega arith) top);
      }

  module _ (ws : List ℕ) (a : ℕ) (long : length ws ≡ length os) (most : a ≤ length os) (all : passed h p (state_before os ss a) (drop a ws) ≡ length ws - a) where
    abbrev st : State
    st = state_before os ss a

    front_out : length (take a os) ≡ a
    front_out = length-take-le a os most

    front_held : length (take a ss) ≡ a
    front_held = length-take-le a ss (omega (arith, ok.long, most))

    tail_long : length (drop a ws) ≡ length ws - a
    tail_long = length-drop a ws

    pub out_length : length (outflows_from h p os ss ws a) ≡ length os
    out_length = omega (arith, length-append (take a os) (outflows h p st (drop a ws)), front_out, column_length h p outflow_of st (drop a ws), tail_long, long, most)

    pub held_length : length (storages_from h p os ss ws a) ≡ length os
    held_length = omega (arith, length-append (take a ss) (storages h p st (drop a ws)), front_held, column_length h p storage_of st (drop a ws), tail_long, long, most)

    early : (i : ℕ) → i < a → RowOk h p (at (outflows_from h p os ss ws a) i) (at (storages_from h p os ss ws a) i)
    early i l =
        rw (get_or-append (take a os) (outflows h p st (drop a ws)) 0 i (omega (arith, front_out)), get_or-append (take a ss) (storages h p st (drop a ws)) 0 i (omega (arith, front_held)), get_or-take a os i 0 l, get_or-take a ss i 0 l) (ok.each i (omega (arith, most)))

    routed : RowsOk h p (outflows h p st (drop a ws)) (storages h p st (drop a ws))
    routed = rows_stand pond st (drop a ws) (before_ok a most) (all ∙ sym tail_long) (omega (arith, tail_long, long, ok.few))

    late : (i : ℕ) → i < length os - a → RowOk h p (at (outflows_from h p os ss ws a) (a + i)) (at (storages_from h p os ss ws a) (a + i))
    late i l =
        let out : at (outflows_from h p os ss ws a) (a + i) ≡ at (outflows h p st (drop a ws)) i = ap (λ (z : ℕ). at (outflows_from h p os ss ws a) (z + i)) (sym front_out) ∙ get_or-append-add (take a os) (outflows h p st (drop a ws)) i 0 in
        let held : at (storages_from h p os ss ws a) (a + i) ≡ at (storages h p st (drop a ws)) i = ap (λ (z : ℕ). at (storages_from h p os ss ws a) (z + i)) (sym front_held) ∙ get_or-append-add (take a ss) (storages h p st (drop a ws)) i 0 in
        rw (out, held) (routed.each i (omega (arith, column_length h p outflow_of st (drop a ws), tail_long, long, l)))

    -- the rows then standing can be the pond's
    pub rows_from : RowsOk h p (outflows_from h p os ss ws a) (storages_from h p os ss ws a)
    rows_from =
        record {
          long = held_length ∙ sym out_length;
          few = omega (arith, out_length, ok.few);
          each = λ i l. ⊎_elim (λ (m : i < a). early i m)
              (λ (m : a ≤ i). let e : a + (i - a) ≡ i = omega arith in rw e at (late (i - a) (omega (arith, out_length, l, m)))) (below_or_not i a);
        }

    pub rows_left : (out held : List ℕ) → out ≡ outflows_from h p os ss ws a → held ≡ storages_from h p os ss ws a → RowsOk h p out held
    rows_left out held e f = rw (e, f) rows_from
