-- A loop that looks for the first bad place: laws of `scan`, for any test. Assumes nothing.
use mathlib.Core.Path.{◌≡◌, refl, sym, ap, ◌∙◌, subst}
use mathlib.Core.Logic.{⊎_elim}
use mathlib.Core.Bool.{Bool, true, false, true≢false}
use Prim.Native.Nat.{ℕ, zero, suc, ◌+◌, ◌-◌, ◌≤◌, ◌<◌}
use native.Mathlib.Nat.{eq-or-lt_of_le, sub-zero}
use native.Mathlib.Omega.{arith}
use Rattle.laws.specs.Pick.{pick}
use Rattle.laws.specs.Scan.{scan}
use Rattle.laws.proofs.Num.{below_or_not}
use Rattle.laws.proofs.Tests.{by_test}

one_left : (n i : ℕ) → i < n → n - i ≡ suc (n - (i + 1))
one_left n i l = omega arith

none_left : (n i : ℕ) → n ≤ i → n - i ≡ 0
none_left n i l = omega arith

module _ (good : ℕ → Bool) where
  -- a good place is passed
  pub scan_next : (n i : ℕ) → i < n → good i ≡ true → scan good (n - i) i ≡ scan good (n - (i + 1)) (i + 1)
  unfolding scan
  scan_next n i l t = rw (one_left n i l, t)

  -- a bad place is the answer
  pub scan_here : (n i : ℕ) → i < n → good i ≡ false → scan good (n - i) i ≡ i
  unfolding scan
  scan_here n i l t = rw (one_left n i l, t)

  -- past the last place nothing is scanned
  pub scan_end : (n i : ℕ) → n ≤ i → scan good (n - i) i ≡ i
  unfolding scan
  scan_end n i l = rw (none_left n i l)

  -- the answer is no further than the place after the last
  pub scan_most : (n i : ℕ) → scan good n i ≤ i + n
  unfolding scan
  scan_most zero i = omega arith
  scan_most (suc n) i =
      by_test (λ (r : ℕ). r ≤ i + suc n) (good i) (scan good n (i + 1)) i (λ t. omega (arith, scan_most n (i + 1))) (λ t. omega arith)

  -- where none is bad, each is good
  pub scan_all : (n i : ℕ) → scan good n i ≡ i + n → (k : ℕ) → i ≤ k → k < i + n → good k ≡ true
  unfolding scan
  scan_all zero i e k lo hi = absurd (omega arith)
  scan_all (suc n) i e k lo hi = go (good i) refl e (scan_all n (i + 1))
    where
      go : (b : Bool) → good i ≡ b → pick b (scan good n (i + 1)) i ≡ i + suc n
          → (scan good n (i + 1) ≡ i + 1 + n → (k : ℕ) → i + 1 ≤ k → k < i + 1 + n → good k ≡ true) → good k ≡ true
      go true t q more = ⊎_elim (λ w. subst (λ (z : ℕ). good z ≡ true) w t) (λ w. more (omega arith) k (omega arith) (omega arith)) (eq-or-lt_of_le lo)
      go false t q more = absurd (omega arith)

  -- where a scan from 0 did not stop early, each is good
  pub scan_passes : (n : ℕ) → n ≤ scan good n 0 → (i : ℕ) → i < n → good i ≡ true
  scan_passes n l i h = scan_all n 0 (omega (arith, l, scan_most n 0)) i (omega arith) (omega (arith, h))

  -- the place found is bad
  pub scan_bad : (n i : ℕ) → scan good n i < i + n → good (scan good n i) ≡ false
  unfolding scan
  scan_bad zero i l = absurd (omega arith)
  scan_bad (suc n) i l = go (good i) refl l (scan_bad n (i + 1))
    where
      go : (b : Bool) → good i ≡ b → pick b (scan good n (i + 1)) i < i + suc n
          → (scan good n (i + 1) < i + 1 + n → good (scan good n (i + 1)) ≡ false) → good (pick b (scan good n (i + 1)) i) ≡ false
      go true t q more = more (omega arith)
      go false t q more = t

  -- each place before the one found is good
  pub scan_before : (n i : ℕ) (k : ℕ) → i ≤ k → k < scan good n i → good k ≡ true
  unfolding scan
  scan_before zero i k lo hi = absurd (omega arith)
  scan_before (suc n) i k lo hi = go (good i) refl hi (scan_before n (i + 1))
    where
      go : (b : Bool) → good i ≡ b → k < pick b (scan good n (i + 1)) i
          → ((k : ℕ) → i + 1 ≤ k → k < scan good n (i + 1) → good k ≡ true) → good k ≡ true
      go true t q more = ⊎_elim (λ w. subst (λ (z : ℕ). good z ≡ true) w t) (λ w. more k (omega arith) q) (eq-or-lt_of_le lo)
      go false t q more = absurd (omega arith)

  -- where each is good, the scan runs to the end
  pub scan_whole : (n : ℕ) → ((i : ℕ) → i < n → good i ≡ true) → scan good n 0 ≡ n
  scan_whole n each =
      ⊎_elim (λ w. omega arith) (λ w. absurd (true≢false (sym (each (scan good n 0) (omega arith)) ∙ scan_bad n 0 w))) (eq-or-lt_of_le (scan_most n 0))

  -- a place with only good ones before it, and bad itself unless it is the end, is the answer
  pub scan_is : (n r : ℕ) → r ≤ n → ((k : ℕ) → k < r → good k ≡ true) → (r < n → good r ≡ false) → scan good n 0 ≡ r
  scan_is n r l before here =
      ⊎_elim
      (λ (w : scan good n 0 < r). absurd (true≢false (sym (before (scan good n 0) w) ∙ scan_bad n 0 (omega (arith, w)))))
      (λ (w : r ≤ scan good n 0). ⊎_elim (λ (e : r ≡ scan good n 0). sym e) (λ (m : r < scan good n 0). absurd (true≢false (sym (scan_before n 0 r (omega arith) m) ∙ here (omega (arith, scan_most n 0))))) (eq-or-lt_of_le w))
      (below_or_not (scan good n 0) r)

-- tests that agree scan alike
pub scan_same : (f g : ℕ → Bool) (n i : ℕ) → ((k : ℕ) → i ≤ k → k < i + n → f k ≡ g k) → scan f n i ≡ scan g n i
unfolding scan
scan_same f g zero i h = refl
scan_same f g (suc n) i h =
    rw (h i (omega arith) (omega arith), scan_same f g n (i + 1) (λ k lo hi. h k (omega arith) (omega arith)))

-- The invariant of a loop that scans, at place i: what is left to scan gives what the whole scan gives. Each law below answers one of its needs
pub record Scanning (good : ℕ → Bool) (n i : ℕ) : Type 0 where
  pub at : i ≤ n
  pub due : scan good (n - i) i ≡ scan good n 0

module _ (good : ℕ → Bool) (n : ℕ) where
  -- where the loop begins
  pub scan_start : Scanning good n 0
  scan_start = record { at = omega arith; due = ap (λ (k : ℕ). scan good k 0) (sub-zero n) }

  -- after a turn at a good place
  pub scan_go : {i : ℕ} → Scanning good n i → i < n → good i ≡ true → Scanning good n (i + 1)
  scan_go {i} r l t = record { at = omega arith; due = sym (scan_next good n i l t) ∙ r.due }

  -- at a bad place
  pub scan_stop : {i : ℕ} → Scanning good n i → i < n → good i ≡ false → i ≡ scan good n 0
  scan_stop {i} r l t = sym (scan_here good n i l t) ∙ r.due

  -- where the loop ends
  pub scan_done : {i : ℕ} → Scanning good n i → n ≤ i → i ≡ scan good n 0
  scan_done {i} r l = sym (scan_end good n i l) ∙ r.due
