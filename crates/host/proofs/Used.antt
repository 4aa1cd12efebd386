-- How many numbers of a list are handed on. Assumes nothing.
use mathlib.Core.Path.{◌≡◌, sym, ap}
use mathlib.Core.Bool.{Bool}
use Prim.Native.Nat.{ℕ, ◌*◌, ◌≤◌, ◌<◌}
use borrow.Author.Tests.{lt-ltb, le-ltb}
use Rattle.laws.specs.Pick.{pick}
use Rattle.subarea.specs.Records.{width}
use Rattle.laws.specs.Limits.{most_subareas}
use Rattle.host.specs.Gathered.{used}

-- none of too many
pub used_none : (n : ℕ) → most_subareas < n → 0 ≡ used n
unfolding used
used_none n h = sym (ap (λ (b : Bool). pick b 0 (width * n)) (lt-ltb most_subareas n h))

-- else all
pub used_all : (n : ℕ) → n ≤ most_subareas → width * n ≡ used n
unfolding used
used_all n h = sym (ap (λ (b : Bool). pick b 0 (width * n)) (le-ltb most_subareas n h))
