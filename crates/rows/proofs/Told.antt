-- What a dry run tells of the rows that are then written, and what the test of refusal 17 leaves. Assumes nothing.
use mathlib.Core.Path.{◌≡◌, refl, sym, ap, ◌∙◌}
use mathlib.Core.Bool.{Bool, true, false, ◌&&◌}
use mathlib.Core.Logic.{⊎_elim}
use mathlib.Core.List.{List}
use Prim.Native.Nat.{ℕ, ◌+◌, ◌*◌, ◌≤◌, ◌<◌}
use native.Mathlib.Omega.{arith}
use borrow.Author.Tests.{leb-true, le-leb, ltb-true, lt-ltb, le-ltb}
use lib.ListN.{length}
use lib.Seq.{take_all}
use lib.Dec.{leb, ltb}
use Rattle.laws.proofs.Num.{below_or_not}
use Rattle.laws.proofs.Tests.{both_left, both_right, both_true}
use Rattle.std.specs.Prelude.{None, Some}
use Rattle.std.proofs.lemmas.Option.{none-some, same_Some}
use Rattle.laws.specs.Pick.{pick}
use Rattle.laws.proofs.Places.{search_passes, search_whole}
use Rattle.pond.specs.PondRows.{last_sum, last_discharge, empty}
use Rattle.pond.specs.Needs.{PondOk}
use Rattle.pond.specs.declared.State.{State}
use Rattle.pond.proofs.Steps.{empty_ok}
use Rattle.rows.specs.Routing.{end_of, outflow_of, outflows, storages, passed, over_row}
use Rattle.rows.specs.Needs.{dry_of, RowOk, RowsOk}
use Rattle.rows.specs.Figures.{at, kept_to, figures_of, stands_within, stands_good, first_forged}
use Rattle.rows.proofs.Prefix.{passed_most}
use Rattle.rows.proofs.Columns.{column_length}
use Rattle.rows.proofs.Reached.{rows_stand}

-- a row that passes the test can be a pond's
pub stands_ok : (h : ℕ) (p : List ℕ) (o s : ℕ) → stands_good h p o s ≡ true → RowOk h p o s
unfolding stands_within
stands_ok h p o s e =
    let rest = both_right (leb o (last_discharge p)) (leb (h * o) s && leb (s + h * o) (last_sum h p)) e in
    record {
      outflow_most = leb-true _ _ (both_left (leb o (last_discharge p)) (leb (h * o) s && leb (s + h * o) (last_sum h p)) e);
      covers = leb-true _ _ (both_left (leb (h * o) s) (leb (s + h * o) (last_sum h p)) rest);
      within_last = leb-true _ _ (both_right (leb (h * o) s) (leb (s + h * o) (last_sum h p)) rest);
    }

-- and passes where it can
pub stands_pass : (h : ℕ) (p : List ℕ) (o s : ℕ) → RowOk h p o s → stands_good h p o s ≡ true
unfolding stands_within
stands_pass h p o s ok = both_true (le-leb _ _ ok.outflow_most) (both_true (le-leb _ _ ok.covers) (le-leb _ _ ok.within_last))

module _ (h : ℕ) (p os ss : List ℕ) where
  -- rows of which none is refused can be a pond's
  pub rows_ok : length ss ≡ length os → length os ≤ 2000 → first_forged h p os ss ≡ None → RowsOk h p os ss
  rows_ok long few none =
      record {
        long = long;
        few = few;
        each = λ i l. stands_ok h p (at os i) (at ss i) (search_passes (λ k. stands_good h p (at os k) (at ss k)) (length os) none i l);
      }

  -- and of such rows none is refused
  pub rows_pass : RowsOk h p os ss → first_forged h p os ss ≡ None
  rows_pass ok = search_whole (λ k. stands_good h p (at os k) (at ss k)) (length os) (λ i l. stands_pass h p (at os i) (at ss i) (ok.each i l))

module _ (h : ℕ) (p : List ℕ) (st : State) (vs : List ℕ) where
  -- a dry run that goes over nowhere: every row passes
  pub over_none : over_row h p st vs ≡ None → passed h p st vs ≡ length vs
  unfolding over_row
  over_none e =
      ⊎_elim (λ (l : passed h p st vs < length vs). absurd (never l)) (λ (l : length vs ≤ passed h p st vs). omega (arith, passed_most h p st vs)) (below_or_not (passed h p st vs) (length vs))
    where
      never : passed h p st vs < length vs → ⊥
      never l = none-some (passed h p st vs) (sym (rw (lt-ltb (passed h p st vs) (length vs) l) at e))

  -- and where every row passes it goes over nowhere
  pub none_over : passed h p st vs ≡ length vs → over_row h p st vs ≡ None
  unfolding over_row
  none_over e = rw (e, le-ltb (length vs) (length vs) (omega arith))

  -- one that goes over does so at the first row that does not pass
  pub over_some : {k : ℕ} → over_row h p st vs ≡ Some k → (passed h p st vs ≡ k) × (k < length vs)
  unfolding over_row
  over_some {k} e = go (ltb (passed h p st vs) (length vs)) refl e
    where
      go : (b : Bool) → ltb (passed h p st vs) (length vs) ≡ b → pick b (Some (passed h p st vs)) None ≡ Some k → (passed h p st vs ≡ k) × (k < length vs)
      go true t q = let at = same_Some (passed h p st vs) k q in (at, omega (arith, at, ltb-true (passed h p st vs) (length vs) t))
      go false t q = absurd (none-some k q)

  -- it then tells the figures of the rows that are written, and the state after them
  pub dry_tells : passed h p st vs ≡ length vs
      → ((dry_of h p st vs).kept ≡ kept_to h p st.outflow (outflows h p st vs) (storages h p st vs) (length vs)) × ((dry_of h p st vs).last ≡ end_of h p st vs)
  unfolding dry_of
  dry_tells e = rw e (refl, ap (end_of h p st) (take_all (length vs) vs (omega arith)))

module _ {h : ℕ} {p : List ℕ} (ok : PondOk h p) (vs : List ℕ) (all : passed h p empty vs ≡ length vs) (few : length vs ≤ 2000) where
  -- rows left by routing from the empty pond pass the test of refusal 17
  pub routed_pass : first_forged h p (outflows h p empty vs) (storages h p empty vs) ≡ None
  routed_pass =
      rows_pass h p (outflows h p empty vs) (storages h p empty vs) (rows_stand ok empty vs (empty_ok h p) all few)

  -- and have the figures that the dry run kept
  pub routed_figures : (figures_of h p vs (outflows h p empty vs) (storages h p empty vs)).kept ≡ (dry_of h p empty vs).kept
  unfolding figures_of
  routed_figures =
      ap (kept_to h p 0 (outflows h p empty vs) (storages h p empty vs)) (column_length h p outflow_of empty vs) ∙ sym (dry_tells h p empty vs all).0
