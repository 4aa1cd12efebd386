-- Laws of tests: a choice by cases, what a conjunction gives, and tests that agree. Assumes nothing.
use mathlib.Core.Path.{◌≡◌, refl}
use mathlib.Core.Bool.{Bool, true, false, ◌&&◌}
use Prim.Native.Nat.{ℕ, ◌≤◌, ◌<◌}
use lib.Dec.{leb}
use borrow.Author.Tests.{leb-true, leb-false, le-leb, lt-leb}
use Rattle.laws.specs.Pick.{pick}
use Rattle.laws.specs.Within.{within}

-- a fact of `pick`, by cases on its test
pub by_test : {A : Type 0} (P : A → Type 0) (b : Bool) (s t : A) → (b ≡ true → P s) → (b ≡ false → P t) → P (pick b s t)
by_test P true s t f g = f refl
by_test P false s t f g = g refl

-- of two tests that both hold, the first holds
pub both_left : (a b : Bool) → (a && b) ≡ true → a ≡ true
both_left true b e = refl
both_left false b e = e

-- of two tests that both hold, the second holds
pub both_right : (a b : Bool) → (a && b) ≡ true → b ≡ true
both_right true b e = e
both_right false true e = refl
both_right false false e = e

-- two tests that hold hold together
pub both_true : {a b : Bool} → a ≡ true → b ≡ true → (a && b) ≡ true
both_true {a} {b} e f = rw (e, f)

-- two tests are one where each holds exactly where the other does
pub leb_same : (a b c d : ℕ) → (c ≤ d → a ≤ b) → (d < c → b < a) → leb a b ≡ leb c d
leb_same a b c d holds fails = go (leb c d) refl
  where
    go : (t : Bool) → leb c d ≡ t → leb a b ≡ t
    go true e = le-leb a b (holds (leb-true c d e))
    go false e = lt-leb a b (fails (leb-false c d e))

-- what a number within its limits keeps to
pub record Kept (least x most : ℕ) : Type 0 where
  pub low : least ≤ x
  pub high : x ≤ most

-- a number that passes the test keeps to its limits
pub kept : (least x most : ℕ) → within least x most ≡ true → Kept least x most
kept least x most e =
    record {
      low = leb-true _ _ (both_left (leb least x) (leb x most) e);
      high = leb-true _ _ (both_right (leb least x) (leb x most) e);
    }

-- and one that keeps to them passes
pub keeps : (least x most : ℕ) → least ≤ x → x ≤ most → within least x most ≡ true
keeps least x most lo hi = both_true (le-leb least x lo) (le-leb x most hi)
