-- A list passes the tests of refusals 12 and 13 exactly where it is a pond within its limits. Assumes nothing.
use mathlib.Core.Path.{◌≡◌, subst}
use mathlib.Core.Bool.{Bool, true, ◌&&◌}
use mathlib.Core.List.{List}
use Prim.Native.Nat.{ℕ, zero, suc, ◌+◌, ◌*◌, ◌%◌, ◌<◌}
use lib.ListN.{length}
use lib.Dec.{leb, ltb, eqb}
use native.Mathlib.Nat.{add-sub_cancel}
use native.Mathlib.Numerals.{add-one}
use native.Mathlib.Omega.{arith}
use borrow.Author.Tests.{leb-true, ltb-true, eqb-true, le-leb, lt-ltb, eq-eqb, ne_eqb}
use Rattle.laws.specs.Within.{within}
use Rattle.laws.proofs.Tests.{both_left, both_right, both_true, Kept, kept, keeps}
use Rattle.std.specs.Prelude.{None}
use Rattle.laws.proofs.Places.{search_passes, search_whole}
use Rattle.pond.specs.PondRows.{rows_in, stage, storage, discharge, count_good, row_within, order_good, row_good, first_bad, held_good, first_short}
use Rattle.pond.specs.Needs.{HalfOk, TableOk, PondOk}

-- the three of three tests that hold together
record Three (a b c : Bool) : Type 0 where
  one : a ≡ true
  two : b ≡ true
  three : c ≡ true

threefold : (a b c : Bool) → (a && (b && c)) ≡ true → Three a b c
threefold a b c e =
    let f = both_right a (b && c) e in
    record { one = both_left a (b && c) e; two = both_left b c f; three = both_right b c f }

module _ (p : List ℕ) (some : count_good p ≡ true) (none : first_bad p ≡ None) where
  few : Kept 2 (rows_in p) 64
  unfolding count_good
  few = kept 2 (rows_in p) 64 (both_right (eqb (length p % 3) 0) (within 2 (rows_in p) 64) some)

  whole : length p ≡ 3 * rows_in p
  unfolding count_good
  whole = omega (arith, eqb-true (length p % 3) 0 (both_left (eqb (length p % 3) 0) (within 2 (rows_in p) 64) some))

  good : (i : ℕ) → i < rows_in p → row_good p i ≡ true
  good i l = search_passes (row_good p) (rows_in p) none i l

  limits : (i : ℕ) → i < rows_in p → Three (leb (stage p i) 1000000) (leb (storage p i) 1000000000000) (leb (discharge p i) 10000000)
  unfolding row_within
  limits i l = threefold _ _ _ (both_left (row_within p i) (order_good p i) (good i l))

  order : (i : ℕ) → i < rows_in p → order_good p i ≡ true
  order i l = both_right (row_within p i) (order_good p i) (good i l)

  first : (eqb (storage p 0) 0 && eqb (discharge p 0) 0) ≡ true
  unfolding order_good
  first = order 0 (omega (arith, few.low))

  rising : (i : ℕ) → i + 1 < rows_in p → Three (ltb (stage p i) (stage p (i + 1))) (ltb (storage p i) (storage p (i + 1))) (leb (discharge p i) (discharge p (i + 1)))
  unfolding order_good
  rising i l = threefold _ _ _ (rw (ne_eqb (i + 1) 0 (omega arith), add-sub_cancel i 1) at (order (i + 1) l))

  -- a list that passes the tests of refusal 12 is a table within its limits
  pub table_ok : TableOk p
  table_ok =
      record {
        triples = whole;
        least = few.low;
        most = few.high;
        stages = λ i l. leb-true _ _ (limits i l).one;
        storages = λ i l. leb-true _ _ (limits i l).two;
        discharges = λ i l. leb-true _ _ (limits i l).three;
        stage_up = λ i l. ltb-true _ _ (rising i l).one;
        storage_up = λ i l. ltb-true _ _ (rising i l).two;
        discharge_up = λ i l. leb-true _ _ (rising i l).three;
        storage_first = eqb-true _ _ (both_left (eqb (storage p 0) 0) (eqb (discharge p 0) 0) first);
        discharge_first = eqb-true _ _ (both_right (eqb (storage p 0) 0) (eqb (discharge p 0) 0) first);
      }

module _ {p : List ℕ} (ok : TableOk p) where
  -- and such a table passes: its count is good
  pub count_pass : count_good p ≡ true
  unfolding count_good
  count_pass = both_true (eq-eqb (length p % 3) 0 (omega (arith, ok.triples))) (keeps 2 (rows_in p) 64 ok.least ok.most)

  limits_pass : (i : ℕ) → i < rows_in p → row_within p i ≡ true
  unfolding row_within
  limits_pass i l =
      both_true (le-leb (stage p i) 1000000 (ok.stages i l))
      (both_true (le-leb (storage p i) 1000000000000 (ok.storages i l)) (le-leb (discharge p i) 10000000 (ok.discharges i l)))

  after_pass : (i : ℕ) → i + 1 < rows_in p → order_good p (i + 1) ≡ true
  unfolding order_good
  after_pass i l =
      rw (ne_eqb (i + 1) 0 (omega arith), add-sub_cancel i 1)
      (both_true (lt-ltb (stage p i) (stage p (i + 1)) (ok.stage_up i l))
      (both_true (lt-ltb (storage p i) (storage p (i + 1)) (ok.storage_up i l)) (le-leb (discharge p i) (discharge p (i + 1)) (ok.discharge_up i l))))

  order_pass : (i : ℕ) → i < rows_in p → order_good p i ≡ true
  unfolding order_good
  order_pass zero l = both_true (eq-eqb (storage p 0) 0 ok.storage_first) (eq-eqb (discharge p 0) 0 ok.discharge_first)
  order_pass (suc i) l = subst (λ (k : ℕ). order_good p k ≡ true) (add-one i) (after_pass i (omega arith))

  -- and none of its rows is bad
  pub rows_pass : first_bad p ≡ None
  rows_pass = search_whole (row_good p) (rows_in p) (λ i l. both_true (limits_pass i l) (order_pass i l))

-- a table that passes the test of refusal 13 at a half step is a pond within its limits
pub pond_ok : {h : ℕ} {p : List ℕ} → HalfOk h → TableOk p → first_short h p ≡ None → PondOk h p
pond_ok {h} {p} half table none =
    record {
      half = half;
      table = table;
      held = λ i l. leb-true _ _ (search_passes (held_good h p) (rows_in p) none i l);
    }

-- and such a pond passes
pub held_pass : {h : ℕ} {p : List ℕ} → PondOk h p → first_short h p ≡ None
held_pass {h} {p} ok = search_whole (held_good h p) (rows_in p) (λ i l. le-leb (h * discharge p i) (storage p i) (ok.held i l))
