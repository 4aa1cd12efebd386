-- `wide::times` meets its contract: the limbs written so far with those still due are all of the product's. Assumes nothing.
use native.Mathlib.Omega.{arith}
use Rattle.wide.proofs.Limbs.{limb_most, scaling_start, scaling_turn, scaling_end}
use Rattle.wide.proofs.times.Goals as goal

pub loop-limb-init : goal.loop-limb-init
loop-limb-init c = scaling_start _ _ c.requires.wide

pub overflow_mul-p : goal.overflow_mul-p
overflow_mul-p c =
    let l = c.loop-limb in
    omega (arith, limb_most (l.invariant.wide.small.each l.limb-index) c.requires.most l.invariant.small)

pub overflow_add-p : goal.overflow_add-p
overflow_add-p c =
    let l = c.loop-limb in
    omega (arith, limb_most (l.invariant.wide.small.each l.limb-index) c.requires.most l.invariant.small)

pub loop-limb-preserved : goal.loop-limb-preserved
loop-limb-preserved c = scaling_turn _ _ c.requires.most c.loop-limb.invariant c.loop-limb-test.true

pub returns : goal.returns
returns c = scaling_end _ _ c.requires.wide c.requires.fits c.loop-limb.invariant c.loop-limb-test.false
