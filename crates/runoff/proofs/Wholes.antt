-- Of a whole curve number the runoff over tenths is document 01's. Assumes nothing.
use mathlib.Core.Path.{◌≡◌, ap, ◌∙◌}
use mathlib.Core.Logic.{⊎_elim}
use Prim.Native.Nat.{ℕ, ◌+◌, ◌*◌, ◌/◌, ◌≤◌, ◌<◌}
use native.Mathlib.Nat.{mul-div-mul_left}
use native.Mathlib.Omega.{arith}
use borrow.Author.Tests.{le-leb, lt-leb}
use Rattle.laws.proofs.Num.{below_or_not}
use Rattle.runoff.specs.RunoffDepth.{N, M, depth, whole_n, whole_m, whole_depth}
use Rattle.runoff.proofs.Rising.{depth_some, depth_none}

-- with n, C and m each ten times what they are, the quotient is the same
tenfold : (C n m : ℕ) → 1000 * ((10 * n) * (10 * n)) / ((10 * C) * (10 * m)) ≡ 1000 * (n * n) / (C * m)
tenfold C n m =
    let above : 1000 * ((10 * n) * (10 * n)) ≡ 100 * (1000 * (n * n)) = omega arith in
    let below : (10 * C) * (10 * m) ≡ 100 * (C * m) = omega arith in
    ap (λ (z : ℕ). z / ((10 * C) * (10 * m))) above ∙ ap (λ (z : ℕ). 100 * (1000 * (n * n)) / z) below
    ∙ mul-div-mul_left {m = 100} (1000 * (n * n)) (C * m) (omega arith)

-- at 10 C the depth is what document 01 gives at C, of any curve number and any rain
pub tenths_whole : (C p : ℕ) → depth (10 * C) p ≡ whole_depth C p
unfolding whole_depth
tenths_whole C p = ⊎_elim wet dry (below_or_not 200000 (C * p + 2000 * C))
  where
    wet : 200000 < C * p + 2000 * C → depth (10 * C) p ≡ whole_depth C p
    wet h =
        let n : N (10 * C) p ≡ 10 * whole_n C p = omega arith in
        let m : M (10 * C) p ≡ 10 * whole_m C p = omega arith in
        rw (depth_some (10 * C) p (omega arith), lt-leb (C * p + 2000 * C) 200000 h, n, m) (tenfold C (whole_n C p) (whole_m C p))

    dry : C * p + 2000 * C ≤ 200000 → depth (10 * C) p ≡ whole_depth C p
    dry h = rw (depth_none (10 * C) p (omega arith), le-leb (C * p + 2000 * C) 200000 h)
