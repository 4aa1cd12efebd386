-- Laws of products and quotients of whole numbers. Assumes nothing.
use mathlib.Core.Path.{◌≡◌, refl}
use mathlib.Core.Bool.{Bool, true, false}
use mathlib.Core.Logic.{◌⊎◌, inl, inr}
use borrow.Author.Tests.{ltb-true, ltb-false, eqb-true, eqb-false}
use Prim.Native.Nat.{ℕ, ◌*◌, ◌/◌, ◌^◌, ◌≤◌, ◌<◌}
use lib.Dec.{T, ltb, eqb, lit<}
use mir.Val.{Fits}
use mir.Syntax.{w64}
use native.Mathlib.Nat.{mul-le-mul, lt_of_le_of_lt, mul-le-mul_right, div-le_of_le-mul, div-mul-le_self, le_of_mul-le-mul_right, le-div_iff_mul-le, le_trans}
use native.Mathlib.Omega.{arith}

-- a number is below another or not
pub below_or_not : (a b : ℕ) → (a < b) ⊎ (b ≤ a)
below_or_not a b = go (ltb a b) refl
  where
    go : (t : Bool) → ltb a b ≡ t → (a < b) ⊎ (b ≤ a)
    go true e = inl (ltb-true a b e)
    go false e = inr (ltb-false a b e)

-- a number is another or not
pub equal_or_not : (a b : ℕ) → (a ≡ b) ⊎ (a ≡ b → ⊥)
equal_or_not a b = go (eqb a b) refl
  where
    go : (t : Bool) → eqb a b ≡ t → (a ≡ b) ⊎ (a ≡ b → ⊥)
    go true e = inl (eqb-true a b e)
    go false e = inr (eqb-false a b e)

-- a quotient never falls as its dividend rises
pub div_rises : (a b d : ℕ) → 0 < d → a ≤ b → a / d ≤ b / d
div_rises a b d some l = (le-div_iff_mul-le some).1 (le_trans (div-mul-le_self a d) l)

-- a product of two bounded numbers fits a u64, where the bounds' product does
pub mul_fits : (A B : ℕ) {a b : ℕ} → a ≤ A → b ≤ B → T (ltb (A * B) (2 ^ 64)) → Fits w64 (a * b)
mul_fits A B ha hb t = record { fits = lt_of_le_of_lt (mul-le-mul ha hb) (lit< t) }

-- the part of d that a is of w, where a is at most w
pub part_le : (a w d : ℕ) → a ≤ w → a * d / w ≤ d
part_le a w d le = div-le_of_le-mul w (mul-le-mul_right d le)

-- quotients compare as their products across do
pub div_cross : (a b c d : ℕ) → 0 < b → 0 < d → a * d ≤ c * b → a / b ≤ c / d
div_cross a b c d pb pd h =
    (le-div_iff_mul-le pd).1
    (le_of_mul-le-mul_right {k = b} (omega (arith, mul-le-mul_right d (div-mul-le_self a b), h)) pb)
