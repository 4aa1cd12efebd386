-- `fitting::fit_block` meets its contract. Assumes nothing.
use Rattle.std.proofs.Common.{rules, arith, ◌≡◌, true}
use Rattle.rows.specs.Figures.{at}
use Rattle.fitting.specs.Fits.{inflow_fits}
use Rattle.fitting.proofs.Fits.{fits, fit_start, fit_turn, fit_stop, fit_end, fit_small}
use Rattle.fitting.proofs.fit_block.Goals as goal

pub loop-i-init : goal.loop-i-init
loop-i-init c = fit_start _ _

pub returns-then-not-contains : goal.returns-then-not-contains
unfolding inflow_fits
returns-then-not-contains c =
    let l = c.loop-i in
    fit_stop _ _ l.left l.i l.invariant (search rules) (search rules)

pub overflow_add-left : goal.overflow_add-left
unfolding inflow_fits
overflow_add-left c =
    let l = c.loop-i in
    let fitted : inflow_fits (at c.args.parts.now l.i) (at c.args.inflow.now l.i) ≡ true = search rules in
    omega (arith, (fits (at c.args.parts.now l.i) (at c.args.inflow.now l.i) fitted).1, fit_small _ _ l.left l.i l.invariant, l.invariant.so_far, c.requires.1)

pub loop-i-preserved : goal.loop-i-preserved
unfolding inflow_fits
loop-i-preserved c =
    let l = c.loop-i in
    fit_turn _ _ l.left l.i l.invariant (search rules) (search rules)

pub returns : goal.returns
returns c = fit_end (at c.args.parts.now) _ c.loop-i.left c.loop-i.i c.loop-i.invariant (search rules)
