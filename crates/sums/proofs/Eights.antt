-- What a hand of weights adds, told one by one. Assumes nothing.
use mathlib.Core.Path.{◌≡◌, sym, ap}
use mathlib.Core.List.{List}
use Prim.Native.Nat.{ℕ, ◌+◌, ◌-◌, ◌*◌}
use native.Mathlib.Omega.{arith}
use lib.ListN.{get_or}
use Rattle.laws.specs.Sum.{sum_to}
use Rattle.hydrograph.specs.Needs.{hand, product}
use Rattle.sums.specs.Needs.{handful}

-- a sum of eight
eight_sum : (f : ℕ → ℕ) → sum_to f hand ≡ f 0 + f 1 + f 2 + f 3 + f 4 + f 5 + f 6 + f 7
unfolding sum_to
eight_sum f = omega arith

-- each of a hand of weights times its depth
abbrev pub eight : List ℕ → List ℕ → ℕ → ℕ
eight w q i =
    get_or w 0 0 * get_or q (i + 7) 0 + get_or w 1 0 * get_or q (i + 6) 0 + get_or w 2 0 * get_or q (i + 5) 0 + get_or w 3 0 * get_or q (i + 4) 0
    + get_or w 4 0 * get_or q (i + 3) 0 + get_or w 5 0 * get_or q (i + 2) 0 + get_or w 6 0 * get_or q (i + 1) 0 + get_or w 7 0 * get_or q i 0

-- is what the hand adds
pub eight_hand : (w q : List ℕ) (i : ℕ) → eight w q i ≡ handful w q (i + 1)
eight_hand w q i =
    rw (at 0 (i + 7) (omega arith), at 1 (i + 6) (omega arith), at 2 (i + 5) (omega arith), at 3 (i + 4) (omega arith))
    (rw (at 4 (i + 3) (omega arith), at 5 (i + 2) (omega arith), at 6 (i + 1) (omega arith), at 7 i (omega arith)) (sym (eight_sum (product w q (i + 1 + 6)))))
  where
    at : (g x : ℕ) → x ≡ i + 1 + 6 - g → get_or w g 0 * get_or q x 0 ≡ product w q (i + 1 + 6) g
    at g x n = ap (λ (z : ℕ). get_or w g 0 * get_or q z 0) n
