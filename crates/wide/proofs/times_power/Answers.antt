-- `wide::times_power` meets its contract. Assumes nothing.
use Prim.Native.Nat.{◌≤◌}
use lib.Dec.{lit<}
use native.Mathlib.Nat.{lt_of_le_of_lt, mul-le-mul}
use native.Mathlib.Omega.{arith}
use Rattle.laws.proofs.Num.{mul_fits}
use Rattle.wide.proofs.Limbs.{power_halved, halved_fits}
use Rattle.wide.proofs.times_power.Goals as goal

pub overflow_mul-factor : goal.overflow_mul-factor
overflow_mul-factor c = mul_fits 65535 65535 (omega arith) (omega arith) tt

pub times_turns-requires : goal.times_turns-requires
times_turns-requires c =
    let small : c.args.factor ≤ 65535 = omega arith in
    record {
      wide = c.requires.wide;
      factor = record { least = mul-le-mul c.requires.factor.least c.requires.factor.least; most = lt_of_le_of_lt (mul-le-mul small small) (lit< tt) };
      fits = halved_fits _ _ _ c.requires.factor.least c.requires.fits;
    }

pub times_turns-requires-then-factor-lt65536 : goal.times_turns-requires-then-factor-lt65536
times_turns-requires-then-factor-lt65536 c =
    let p = c.requires in
    let w = c.times_turns.ensures in
    record { wide = w.wide; factor = p.factor; fits = rw (w.is, power_halved) p.fits }

pub returns-then-factor-lt65536 : goal.returns-then-factor-lt65536
returns-then-factor-lt65536 c = rw (c.times_turns.ensures.is, power_halved) at c.times_turns-then-factor-lt65536.ensures
