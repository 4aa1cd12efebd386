-- `sheet::results::stage` asks for a stage at an X that is not above the last one.
use Prim.Native.Nat.{ℕ, ◌*◌, ◌/◌, ◌≤◌, ◌<◌}
use native.Mathlib.Nat.{mul_comm, le-div_iff_mul-le}
use native.Mathlib.Omega.{arith}
use Rattle.sheet.proofs.results.stage.Goals as goal

-- what a quotient bounds, as a product
room : (h o d : ℕ) → 30 ≤ h → o ≤ d / h → h * o ≤ d
room h o d some le =
    let more : 0 < h = omega arith in
    rw mul_comm ((le-div_iff_mul-le more).0 le)

pub overflow_mul-pond : goal.overflow_mul-pond
overflow_mul-pond c = omega (arith, room _ _ _ c.args.pond.now.sound.half.least c.if-outflow-last.false)

pub overflow_add-storage : goal.overflow_add-storage
overflow_add-storage c = omega (arith, room _ _ _ c.args.pond.now.sound.half.least c.if-outflow-last.false)

pub stage_at-requires : goal.stage_at-requires
stage_at-requires c = omega (arith, room _ _ _ c.args.pond.now.sound.half.least c.if-outflow-last.false, c.last_sum-last.ensures)
