-- The largest number that passes a test, and a loop that finds it by halving: laws for any test. Assumes nothing.
use mathlib.Core.Path.{◌≡◌, refl, sym, ◌∙◌, subst}
use mathlib.Core.Bool.{Bool, true, false, true≢false}
use mathlib.Core.Logic.{◌↔◌, ⊎_elim}
use Prim.Native.Nat.{ℕ, zero, suc, ◌+◌, ◌≤◌, ◌<◌}
use lib.Dec.{leb}
use native.Mathlib.Nat.{eq-or-lt_of_le}
use native.Mathlib.Omega.{arith}
use borrow.Author.Tests.{leb-false, lt-leb}
use Rattle.laws.proofs.Tests.{by_test}
use Rattle.roots.specs.Largest.{largest}
use Rattle.roots.specs.Needs.{Edge}

-- a test that stays false once it is false
abbrev pub Stays : (ℕ → Bool) → Type 0
Stays test = (a b : ℕ) → a ≤ b → test a ≡ false → test b ≡ false

-- a number that rises, held against a bound, is such a test
pub bound_stays : (f : ℕ → ℕ) (most : ℕ) → ((a b : ℕ) → a ≤ b → f a ≤ f b) → Stays (λ t. leb (f t) most)
bound_stays f most rises a b l e = lt-leb (f b) most (omega (arith, leb-false (f a) most e, rises a b l))

-- tests that agree have the same largest number
pub largest_same : (f g : ℕ → Bool) → ((t : ℕ) → f t ≡ g t) → (n : ℕ) → largest f n ≡ largest g n
unfolding largest
largest_same f g h zero = refl
largest_same f g h (suc n) = rw (h (suc n), largest_same f g h n)

-- no test both holds and fails
never : {b : Bool} → b ≡ true → b ≡ false → ⊥
never e f = true≢false (sym e ∙ f)

-- a test that does not fail holds
holds : (b : Bool) → (b ≡ false → ⊥) → b ≡ true
holds true n = refl
holds false n = absurd (n refl)

module _ (test : ℕ → Bool) where
  -- it is at most the number tried first
  pub largest_bound : (n : ℕ) → largest test n ≤ n
  unfolding largest
  largest_bound zero = omega arith
  largest_bound (suc n) =
      by_test (λ (r : ℕ). r ≤ suc n) (test (suc n)) (suc n) (largest test n) (λ t. omega arith) (λ t. omega (arith, largest_bound n))

  -- it passes, where 0 does
  pub largest_passes : test 0 ≡ true → (n : ℕ) → test (largest test n) ≡ true
  unfolding largest
  largest_passes e zero = e
  largest_passes e (suc n) =
      by_test (λ (r : ℕ). test r ≡ true) (test (suc n)) (suc n) (largest test n) (λ t. t) (λ t. largest_passes e n)

  -- none that passes is larger
  pub largest_most : {t : ℕ} (n : ℕ) → t ≤ n → test t ≡ true → t ≤ largest test n
  unfolding largest
  largest_most zero l e = l
  largest_most {t} (suc n) l e =
      by_test (λ (r : ℕ). t ≤ r) (test (suc n)) (suc n) (largest test n)
      (λ p. l)
      (λ p. ⊎_elim (λ w. absurd (never e (subst (λ (z : ℕ). test z ≡ false) (sym w) p))) (λ w. largest_most n (omega arith) e) (eq-or-lt_of_le l))

  module _ (stays : Stays test) where
    -- a number that passes where the next does not is the largest
    pub largest_found : {t : ℕ} (n : ℕ) → test t ≡ true → test (t + 1) ≡ false → t ≤ n → largest test n ≡ t
    unfolding largest
    largest_found {t} zero e f l = omega arith
    largest_found {t} (suc n) e f l =
        ⊎_elim (λ w. rw (subst (λ (z : ℕ). test z ≡ true) w e) (sym w)) (λ w. rw (stays (t + 1) (suc n) (omega arith) f) (largest_found n e f (omega arith)))
        (eq-or-lt_of_le l)

    -- where 0 passes and none past n does, those that pass are the numbers up to the largest
    pub largest_is : (n : ℕ) → test 0 ≡ true → test (n + 1) ≡ false → (t : ℕ) → (test t ≡ true) ↔ (t ≤ largest test n)
    largest_is n z f t =
        (λ e. largest_most n (below e) e, λ l. holds (test t) (λ p. never (largest_passes z n) (stays t (largest test n) l p)))
      where
        below : test t ≡ true → t ≤ n
        below e = let low : ¬ (n + 1 ≤ t) = λ l. never e (stays (n + 1) t l f) in omega arith

-- a range whose low end passes and whose high end fails
pub record Bracket (test : ℕ → Bool) (low high : ℕ) : Type 0 where
  pub passes : test low ≡ true
  pub fails : test high ≡ false
  pub apart : low < high

-- where it has no number inside, its low end is the largest that passes
pub bracket_end : (test : ℕ → Bool) {low high : ℕ} (n : ℕ) → Stays test → Bracket test low high → high ≤ low + 1 → high ≤ n + 1 → low ≡ largest test n
bracket_end test {low} {high} n stays r close top =
    let next : high ≡ low + 1 = omega arith in
    sym (largest_found test stays n r.passes (rw next at r.fails) (omega arith))

-- an edge that answers of a test found, in such a range from 0 to the first number not tried, is one
pub edge_bracket : (test : ℕ → Bool) {past t : ℕ} → Bracket test 0 past → Edge (λ t b. b ≡ test t) past t → Bracket test t (t + 1)
edge_bracket test {past} {t} whole r =
    record {
      passes = ⊎_elim (λ w. subst (λ (x : ℕ). test x ≡ true) w whole.passes) (λ l. sym (r.here l)) (eq-or-lt_of_le least);
      fails = ⊎_elim (λ w. subst (λ (x : ℕ). test x ≡ false) (sym w) whole.fails) (λ l. sym (r.next l)) (eq-or-lt_of_le most);
      apart = omega arith;
    }
  where
    least : 0 ≤ t
    least = omega arith

    most : t + 1 ≤ past
    most = omega (arith, r.below)

-- The invariant of a loop that narrows a range, by what the answers tell
pub record Narrowed (tells : ℕ → Bool → Type 0) (past low high : ℕ) : Type 0 where
  pub apart : low < high
  pub within : high ≤ past
  pub passes : 1 ≤ low → tells low true
  pub fails : high < past → tells high false
