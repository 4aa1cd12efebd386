-- `wide::times_turns` meets its contract: after k turns there are k factors. Assumes nothing.
use mathlib.Core.Path.{◌≡◌}
use native.Mathlib.Nat.{pow-zero, mul-one}
use native.Mathlib.Omega.{arith}
use Rattle.wide.specs.Limbs.{value}
use Rattle.wide.proofs.Limbs.{power_more, power_fits}
use Rattle.wide.proofs.times_turns.Goals as goal

pub loop-init : goal.loop-init
loop-init c = record { wide = c.requires.wide; is = simp (pow-zero, mul-one) }

pub times-requires : goal.times-requires
times-requires c =
    record {
      wide = c.loop.invariant.wide;
      most = c.requires.factor.most;
      fits = power_fits _ _ _ c.requires.factor.least c.loop-test.true c.loop.invariant.is c.requires.fits;
    }

pub loop-preserved : goal.loop-preserved
loop-preserved c =
    rw (power_more (value c.args.w.now) (value c.loop.w) c.args.factor c.loop.counter c.loop.invariant.is) at c.times.ensures

pub returns : goal.returns
returns c =
    let all : c.loop.counter ≡ c.args.exponent = omega arith in
    rw all at c.loop.invariant
