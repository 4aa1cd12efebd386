-- A flat list passes its test exactly where its records are whole, few enough and good. Assumes nothing.
use mathlib.Core.Path.{◌≡◌, sym, ap}
use mathlib.Core.Bool.{Bool, true, ◌&&◌}
use mathlib.Core.List.{List, []}
use Prim.Native.Nat.{ℕ, ◌<◌, ◌%◌}
use lib.ListN.{length, get_or}
use lib.Dec.{eqb}
use native.Mathlib.Nat.{div-add-mod}
use native.Mathlib.Omega.{arith}
use borrow.Author.Tests.{eqb-true, eq-eqb}
use Rattle.std.specs.Simd.{first_chunks}
use Rattle.std.specs.List.{list_all}
use Rattle.laws.specs.Scan.{scan}
use Rattle.laws.specs.Within.{within}
use Rattle.laws.specs.Flat.{count, flat_good, FlatOk}
use Rattle.laws.proofs.Tests.{both_left, both_right, both_true, kept, keeps}
use Rattle.laws.proofs.Scans.{scan_all, scan_whole}
use Rattle.laws.proofs.Chunks.{chunks_length, all_places}

module _ (w most : ℕ) (good : ℕ → Bool) (l : List ℕ) where
  -- a list that passes is as it should be
  pub flat_ok : flat_good w most good l ≡ true → FlatOk w most good l
  unfolding flat_good
  flat_ok e =
      let n = count w l in
      let some = within 1 n most in
      let all = eqb (scan good n 0) n in
      let rest = both_right (eqb (length l % w) 0) (some && all) e in
      let none = eqb-true (length l % w) 0 (both_left (eqb (length l % w) 0) (some && all) e) in
      let end = eqb-true (scan good n 0) n (both_right some all rest) in
      let few = kept 1 n most (both_left some all rest) in
      record {
        whole = omega (arith, div-add-mod (length l) w, none);
        least = few.low;
        most = few.high;
        each = λ i k. scan_all good n 0 (omega (arith, end)) i (omega arith) (omega arith);
      }

  -- and one that is passes
  pub flat_good_lem : FlatOk w most good l → flat_good w most good l ≡ true
  unfolding flat_good
  flat_good_lem ok =
      both_true (eq-eqb (length l % w) 0 (omega (arith, div-add-mod (length l) w, ok.whole)))
      (both_true (keeps 1 (count w l) most ok.least ok.most) (eq-eqb _ _ (scan_whole good (count w l) ok.each)))

  -- the same over the records that `as_chunks` gives
  pub flat_chunks : (test : List ℕ → Bool) → ((i : ℕ) → i < count w l → test (get_or (first_chunks w (count w l) l) i []) ≡ good i)
      → flat_good w most good l ≡ (eqb (length l % w) 0 && (within 1 (count w l) most && list_all test (first_chunks w (count w l) l)))
  unfolding flat_good
  flat_chunks test same =
      let many = chunks_length w (count w l) l in
      let each = all_places [] test good (first_chunks w (count w l) l) (λ i h. same i (rw many at h)) in
      ap (λ (b : Bool). eqb (length l % w) 0 && (within 1 (count w l) most && b)) (sym (rw many at each))
