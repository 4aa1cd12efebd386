-- A scan found by halving a range, for a test that stays false once it is false. Assumes nothing.
use mathlib.Core.Path.{◌≡◌, sym, ◌∙◌}
use mathlib.Core.Logic.{⊎_elim}
use mathlib.Core.Bool.{Bool, true, false, true≢false}
use Prim.Native.Nat.{ℕ, zero, suc, ◌+◌, ◌≤◌, ◌<◌}
use native.Mathlib.Nat.{eq-or-lt_of_le, le_refl, le_trans}
use native.Mathlib.Numerals.{add-one}
use native.Mathlib.Omega.{arith}
use Rattle.laws.specs.Scan.{scan}
use Rattle.laws.proofs.Num.{below_or_not}
use Rattle.laws.proofs.Scans.{scan_most, scan_bad, scan_before}

-- a column whose next number is never less rises over its whole length
pub rise : (f : ℕ → ℕ) (n : ℕ) → ((i : ℕ) → i + 1 < n → f i ≤ f (i + 1)) → (a b : ℕ) → a ≤ b → b < n → f a ≤ f b
rise f n up a zero le l = let e : a ≡ 0 = omega arith in rw e (le_refl (f 0))
rise f n up a (suc b) le l =
    ⊎_elim (λ (e : a ≡ suc b). rw e (le_refl (f (suc b))))
    (λ (k : a < suc b). le_trans (rise f n up a b (omega arith) (omega arith)) (rw add-one at (up b (omega arith))))
    (eq-or-lt_of_le le)

-- a test over the first n places that stays false once it is false
abbrev pub Stays : (ℕ → Bool) → ℕ → Type 0
Stays good n = (a b : ℕ) → a ≤ b → b < n → good a ≡ false → good b ≡ false

-- The invariant of a loop that halves a range: the scan's answer lies in it. Each law below answers one of its needs
pub record Halving (good : ℕ → Bool) (n low high : ℕ) : Type 0 where
  pub least : low ≤ scan good n 0
  pub most : scan good n 0 ≤ high
  pub within : high ≤ n

module _ (good : ℕ → Bool) (n : ℕ) where
  -- a place that is bad is not before the answer
  pub scan_upto : {i : ℕ} → good i ≡ false → scan good n 0 ≤ i
  scan_upto {i} f =
      ⊎_elim (λ (w : i < scan good n 0). absurd (true≢false (sym (scan_before good n 0 i (omega arith) w) ∙ f))) (λ w. w) (below_or_not i (scan good n 0))

  -- a place that is good is before it
  pub scan_past : {i : ℕ} → Stays good n → i < n → good i ≡ true → i < scan good n 0
  scan_past {i} stays l t =
      ⊎_elim (λ w. w)
      (λ (w : scan good n 0 ≤ i). absurd (true≢false (sym t ∙ stays (scan good n 0) i w l (scan_bad good n 0 (omega arith)))))
      (below_or_not i (scan good n 0))

  -- where the loop begins
  pub halve_start : Halving good n 0 n
  halve_start = record { least = omega arith; most = omega (arith, scan_most good n 0); within = omega arith }

  -- after a turn at a middle that is good
  pub halve_up : {low mid high : ℕ} → Stays good n → Halving good n low high → good mid ≡ true → mid < high → Halving good n (mid + 1) high
  halve_up {mid = mid} stays r t l =
      record { least = omega (arith, scan_past stays (omega arith) t); most = r.most; within = r.within }

  -- after a turn at a middle that is bad
  pub halve_down : {low mid high : ℕ} → Halving good n low high → good mid ≡ false → mid < high → Halving good n low mid
  halve_down r f l = record { least = r.least; most = scan_upto f; within = omega arith }

  -- where the loop ends
  pub halve_end : {low high : ℕ} → Halving good n low high → high ≤ low → low ≡ scan good n 0
  halve_end r l = omega arith
