-- Whole numbers as lists of limbs of 32 bits, lowest first.
use Rattle.std.specs.Prelude.{◌≡◌, List, [], ◌∷◌, ℕ, ◌+◌, ◌*◌, ◌^◌, ◌≤◌, ◌<◌, length, get_or}

-- the number that a list of limbs stands for
unfoldable pub value : List ℕ → ℕ
value [] = 0
value (x ∷ xs) = x + 4294967296 * value xs

-- a number has so many limbs
abbrev pub limbs : ℕ
limbs = 12

-- what they can hold is below this
unfoldable pub room : ℕ
room = 2 ^ 384

-- each limb is below 2^32
pub record Small (l : List ℕ) : Type 0 where
  pub each : (i : ℕ) → get_or l i 0 < 4294967296

-- as many such limbs
pub record Wide (l : List ℕ) : Type 0 where
  pub long : length l ≡ limbs
  pub small : Small l

-- limbs that stand for n
pub record Holds (l : List ℕ) (n : ℕ) : Type 0 where
  pub wide : Wide l
  pub is : value l ≡ n

-- what a multiplication is asked at
pub record TimesOk (l : List ℕ) (factor : ℕ) : Type 0 where
  pub wide : Wide l
  pub most : factor < 4294967296
  pub fits : value l * factor < room

-- a factor of a power
pub record Factor (f : ℕ) : Type 0 where
  pub least : 1 ≤ f
  pub most : f < 4294967296

-- what a multiplication by a power is asked at
pub record PowerOk (l : List ℕ) (f k : ℕ) : Type 0 where
  pub wide : Wide l
  pub factor : Factor f
  pub fits : value l * f ^ k < room

-- what one, two and three powers are asked at
pub record OneOk (a i : ℕ) : Type 0 where
  pub first : Factor a
  pub fits : a ^ i < room

pub record TwoOk (a i b j : ℕ) : Type 0 where
  pub first : Factor a
  pub second : Factor b
  pub fits : a ^ i * b ^ j < room

pub record ThreeOk (a i b j c k : ℕ) : Type 0 where
  pub first : Factor a
  pub second : Factor b
  pub third : Factor c
  pub fits : a ^ i * b ^ j * c ^ k < room
