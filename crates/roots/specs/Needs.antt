-- What contracts ask of a root, and proofs use.
use Rattle.std.specs.Prelude.{Bool, true, false, ℕ, ◌+◌, ◌*◌, ◌^◌, ◌≤◌, ◌<◌, List}
use Rattle.wide.specs.Limbs.{value, room, Wide}
use Rattle.roots.specs.Largest.{most_power}

-- what a root of a power is asked at: the first number not tried is past it, and there the left side still fits
pub record RootOk (top bottom : List ℕ) (power : ℕ) : Type 0 where
  pub top_wide : Wide top
  pub bottom_wide : Wide bottom
  pub least : 1 ≤ power
  pub past : value top < (most_power + 1) ^ power * value bottom
  pub fits : (most_power + 1) ^ power * value bottom < room

-- what a try is asked at
pub record TryOk (t : ℕ) : Type 0 where
  pub some : 1 ≤ t
  pub tried : t ≤ most_power

-- a number below a bound that passes a test or is 0, where the next number does not pass or is the bound; tells is what an answer of the test tells
pub record Edge (tells : ℕ → Bool → Type 0) (past t : ℕ) : Type 0 where
  pub below : t < past
  pub here : 1 ≤ t → tells t true
  pub next : t + 1 < past → tells (t + 1) false
