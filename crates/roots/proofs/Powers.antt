-- The largest whole T with T^a c at most d: one law for every kind of segment, whatever the power and the factors. Assumes nothing.
use mathlib.Core.Path.{◌≡◌, sym, ◌∙◌}
use mathlib.Core.Bool.{true, true≢false}
use mathlib.Core.Logic.{◌↔◌}
use mathlib.Core.List.{List}
use Prim.Native.Nat.{ℕ, zero, suc, ◌+◌, ◌*◌, ◌^◌, ◌≤◌, ◌<◌}
use native.Mathlib.Nat.{lt_of_le_of_lt, mul_comm, mul-le-mul_right, pow-le-pow_left, pow-suc, mul-zero, zero-mul}
use native.Mathlib.Omega.{arith}
use borrow.Author.Tests.{leb-true, le-leb, lt-leb}
use Rattle.wide.specs.Limbs.{room, Holds}
use Rattle.roots.specs.Largest.{largest, powers, most_power}
use Rattle.roots.specs.Needs.{RootOk, Edge}
use Rattle.roots.proofs.Bisect.{Stays, bound_stays, largest_is, largest_found, largest_passes, Bracket, bracket_end, edge_bracket}

module _ (a c d : ℕ) where
  -- a T that is past d is followed by none that is not
  pub powers_stay : Stays (powers a c d)
  powers_stay = bound_stays (λ t. t ^ a * c) d (λ x y l. mul-le-mul_right c (pow-le-pow_left l a))

  -- 0 is not past d
  pub powers_zero : 1 ≤ a → powers a c d 0 ≡ true
  powers_zero l = le-leb (0 ^ a * c) d (go a l)
    where
      go : (a : ℕ) → 1 ≤ a → 0 ^ a * c ≤ d
      go zero l = absurd (omega arith)
      go (suc a) l = rw (pow-suc, mul-zero, zero-mul) (omega arith)

  -- where n + 1 is past d, the largest up to n is the largest of all whole numbers
  pub powers_is : (n : ℕ) → 1 ≤ a → d < (n + 1) ^ a * c → (T : ℕ) → (T ^ a * c ≤ d) ↔ (T ≤ largest (powers a c d) n)
  powers_is n l past T =
      let is = largest_is (powers a c d) powers_stay n (powers_zero l) (lt-leb _ _ past) T in
      (λ h. is.0 (le-leb _ _ h), λ h. leb-true _ _ (is.1 h))

  -- a T that is not past d, where T + 1 is, is the largest: a document's figure needs no search
  pub powers_found : (n T : ℕ) → T ^ a * c ≤ d → d < (T + 1) ^ a * c → T ≤ n → largest (powers a c d) n ≡ T
  powers_found n T here next l = largest_found (powers a c d) powers_stay n (le-leb _ _ here) (lt-leb _ _ next) l

  -- where m + 1 is past d, the largest is at most m
  pub powers_most : (n m : ℕ) → 1 ≤ a → d < (m + 1) ^ a * c → largest (powers a c d) n ≤ m
  powers_most n m l past =
      let low : ¬ (m + 1 ≤ largest (powers a c d) n) = λ h. true≢false (sym (largest_passes (powers a c d) (powers_zero l) n) ∙ powers_stay (m + 1) (largest (powers a c d) n) h (lt-leb _ _ past)) in
      omega arith

  -- where a search begins: the bound is past d
  pub search_start : {high : ℕ} → 1 ≤ a → d < high ^ a * c → 0 < high → Bracket (powers a c d) 0 high
  search_start l past h = record { passes = powers_zero l; fails = lt-leb _ _ past; apart = h }

  -- where it ends: the low end is the largest
  pub search_end : {low high : ℕ} (n : ℕ) → Bracket (powers a c d) low high → high ≤ low + 1 → high ≤ n + 1 → low ≡ largest (powers a c d) n
  search_end n r close top = bracket_end (powers a c d) n powers_stay r close top

  -- so the edge that it finds below the bound is the largest
  pub search_found : {past t : ℕ} (n : ℕ) → 1 ≤ a → d < past ^ a * c → past ≡ n + 1 → Edge (λ t b. b ≡ powers a c d t) past t → t ≡ largest (powers a c d) n
  search_found n l far e r =
      search_end n (edge_bracket (powers a c d) (search_start l far (omega (arith, e))) r) (omega arith) (omega (arith, e, r.below))

-- what is multiplied out at a T up to a bound fits, where it does at the bound
pub tried_fits : (a c : ℕ) {t n : ℕ} → t ≤ n → n ^ a * c < room → c * t ^ a < room
tried_fits a c {t} l h = rw (mul_comm c (t ^ a)) (lt_of_le_of_lt (mul-le-mul_right c (pow-le-pow_left l a)) h)

-- a root may be asked of limbs that hold two numbers, where it may of the numbers
pub root_ok : {top bottom : List ℕ} {c d : ℕ} (a : ℕ) → Holds top d → Holds bottom c → 1 ≤ a → d < (most_power + 1) ^ a * c → (most_power + 1) ^ a * c < room → RootOk top bottom a
root_ok a t b l past fits =
    record { top_wide = t.wide; bottom_wide = b.wide; least = l; past = rw (t.is, b.is) past; fits = rw b.is fits }
