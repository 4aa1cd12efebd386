-- A flat list of records, each a fixed number of numbers wide.
use Rattle.std.specs.Prelude.{◌≡◌, Bool, true, ◌&&◌, List, ℕ, ◌*◌, ◌/◌, ◌%◌, ◌≤◌, ◌<◌, length, eqb}
use Rattle.laws.specs.Scan.{scan}
use Rattle.laws.specs.Within.{within}

-- how many whole records of width w
abbrev pub count : ℕ → List ℕ → ℕ
count w l = length l / w

-- 1 to most records, nothing left over, each one good
unfoldable pub flat_good : ℕ → ℕ → (ℕ → Bool) → List ℕ → Bool
flat_good w most good l = eqb (length l % w) 0 && (within 1 (count w l) most && eqb (scan good (count w l) 0) (count w l))

-- what that test leaves
pub record FlatOk (w limit : ℕ) (good : ℕ → Bool) (l : List ℕ) : Type 0 where
  pub whole : length l ≡ w * count w l
  pub least : 1 ≤ count w l
  pub most : count w l ≤ limit
  pub each : (i : ℕ) → i < count w l → good i ≡ true
