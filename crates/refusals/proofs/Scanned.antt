-- A search that goes on by one place, and what it refuses. Assumes nothing.
use Rattle.std.proofs.Common.{arith, ◌≡◌, ◌+◌, ◌<◌, ◌≤◌, ℕ, Bool, true, false, not, None, Some, refl, sym, ap, ◌∙◌, slice_index_or}
use mathlib.Core.Logic.{⊎_elim}
use mathlib.Core.Path.{subst}
use native.Mathlib.Nat.{eq-or-lt_of_le}
use borrow.Author.Tests.{ltb-true, ltb-false, lt-ltb, le-ltb}
use lib.Dec.{ltb}
use Rattle.std.specs.Prelude.{IfSome}
use Rattle.laws.specs.Pick.{pick}
use Rattle.std.specs.List.{position_or_len, range_with_len}
use Rattle.std.proofs.lemmas.List.Sums.{position_or_len_is}
use Rattle.std.proofs.lemmas.List.FromFn.{get_or-range_with_len, length-range_with_len}
use Rattle.laws.specs.Scan.{scan}
use Rattle.laws.proofs.Scans.{scan_is, scan_most, scan_bad, scan_before, scan_whole, scan_passes}
use Rattle.refusals.specs.declared.Rule.{Rule}
use Rattle.refusals.specs.Refusals.{Line, stopped, or_else, charge, first_of}
use Rattle.laws.specs.Search.{first_bad_of}
use Rattle.laws.proofs.Places.{search_scan}

module _ (good : ℕ → Bool) where
  -- a bad place was found: it stays the first
  found_before : (i : ℕ) → scan good i 0 < i → scan good (i + 1) 0 ≡ scan good i 0
  found_before i l =
      scan_is good (i + 1) (scan good i 0) (omega (arith, l)) (λ k h. scan_before good i 0 k (omega arith) h) (λ h. scan_bad good i 0 (omega (arith, l)))

  module _ (i : ℕ) (all : scan good i 0 ≡ i) where
    so_far : (k : ℕ) → k < i → good k ≡ true
    so_far k l = scan_before good i 0 k (omega arith) (omega (arith, all, l))

    -- none was: the next decides
    next_good : good i ≡ true → scan good (i + 1) 0 ≡ i + 1
    next_good t = scan_whole good (i + 1) each
      where
        each : (k : ℕ) → k < i + 1 → good k ≡ true
        each k l = ⊎_elim (λ e. subst (λ (z : ℕ). good z ≡ true) (omega (arith, e)) t) (λ m. so_far k (omega (arith, m))) (eq-or-lt_of_le l)

    next_bad : good i ≡ false → scan good (i + 1) 0 ≡ i
    next_bad t = scan_is good (i + 1) i (omega arith) so_far (λ h. t)

  -- the first of i places, then the next place: the first of i + 1
  pub one_more : (r : Rule) (i : ℕ) → or_else (first_of r (first_bad_of good i)) (charge r (good i) (i + 1)) ≡ first_of r (first_bad_of good (i + 1))
  one_more r i = rw (search_scan good i, search_scan good (i + 1)) (go (ltb (scan good i 0) i) refl)
    where
      next : scan good i 0 ≡ i → (b : Bool) → good i ≡ b → charge r b (i + 1) ≡ first_of r (stopped (scan good (i + 1) 0) (i + 1))
      next all true t = rw (next_good i all t, le-ltb (i + 1) (i + 1) (omega arith)) refl
      next all false t = rw (next_bad i all t, lt-ltb i (i + 1) (omega arith)) refl

      go : (b : Bool) → ltb (scan good i 0) i ≡ b
          → or_else (first_of r (pick b (Some (scan good i 0)) None)) (charge r (good i) (i + 1)) ≡ first_of r (stopped (scan good (i + 1) 0) (i + 1))
      go true t =
          let l = ltb-true (scan good i 0) i t in
          rw (found_before i l, lt-ltb (scan good i 0) (i + 1) (omega (arith, l))) refl
      go false t = next (omega (arith, scan_most good i 0, ltb-false (scan good i 0) i t)) (good i) refl

  -- as a loop keeps it
  pub one_record : (r : Rule) (i : ℕ) {u v w : Line} → u ≡ or_else v w → v ≡ first_of r (first_bad_of good i) → w ≡ charge r (good i) (i + 1) → u ≡ first_of r (first_bad_of good (i + 1))
  one_record r i e f g = rw (← f, ← g) e ∙ one_more r i
