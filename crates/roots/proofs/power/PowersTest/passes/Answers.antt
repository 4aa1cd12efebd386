-- `roots::power::PowersTest::passes` meets its contract. Assumes nothing.
use mathlib.Core.Path.{◌∙◌, ap}
use Prim.Native.Nat.{ℕ}
use lib.Dec.{leb}
use native.Mathlib.Nat.{mul_comm}
use native.Mathlib.Omega.{arith}
use Rattle.wide.specs.Limbs.{value}
use Rattle.roots.proofs.Powers.{tried_fits}
use Rattle.roots.proofs.power.PowersTest.passes.Goals as goal

pub times_power-requires : goal.times_power-requires
times_power-requires c =
    let p = c.args.self.now.ok in
    record { wide = p.bottom_wide; factor = record { least = c.requires.some; most = omega (arith, c.requires.tried) }; fits = tried_fits _ _ (omega (arith, c.requires.tried)) p.fits }

pub at_most-requires : goal.at_most-requires
at_most-requires c = (c.times_power.ensures.wide, c.args.self.now.ok.top_wide)

pub returns : goal.returns
returns c =
    c.at_most.ensures ∙ ap (λ (x : ℕ). leb x (value c.args.self.now.top.now)) (c.times_power.ensures.is ∙ mul_comm _ _)
