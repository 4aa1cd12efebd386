-- One line more behind the first ones. Assumes nothing.
use mathlib.Core.Path.{◌≡◌}
use mathlib.Core.List.{List, [], ◌++◌, map}
use Prim.Native.Nat.{ℕ, ◌+◌}
use native.Mathlib.Omega.{arith}
use Rattle.std.specs.Prelude.{flat_map}
use Rattle.std.specs.List.{range_with_len}
use Rattle.std.proofs.lemmas.List.{flat_map_more}
use Rattle.std.proofs.lemmas.List.FromFn.{map-range_with_len_more}

pub lines_more : (f : ℕ → List ℕ) (k : ℕ) → flat_map (λ l. l) (map f (range_with_len 0 k)) ++ f k ≡ flat_map (λ l. l) (map f (range_with_len 0 (k + 1)))
lines_more f k = rw (map-range_with_len_more f 0 k k (omega arith)) (flat_map_more (λ l. l) [] (map f (range_with_len 0 k)) (f k))
