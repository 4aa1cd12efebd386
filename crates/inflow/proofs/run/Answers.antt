-- `inflow::run` meets its contract. Assumes nothing.
use Rattle.std.proofs.Common.{rules}
use mathlib.Core.Path.{◌∙◌}
use Rattle.checks.specs.Site.{basin, found}
use Rattle.checks.proofs.Ready.{inflow_ready}
use Rattle.refusals.proofs.Orders.{refused_old, passed_new}
use Rattle.inflow.specs.Inflow.{inflow_refusal}
use Rattle.inflow.proofs.run.Goals as goal

pub returns-in_err-inflow_checks-clause-rows_after : goal.returns-in_err-inflow_checks-clause-rows_after
unfolding inflow_refusal
returns-in_err-inflow_checks-clause-rows_after c = search (rules, refused_old)

pub fill-requires : goal.fill-requires
fill-requires c =
    let x = basin c.args.setup c.args.rain.now c.args.subareas.now in
    let l = found c.args.rows.now c.args.outflow.now c.args.storage.now in
    let left = inflow_ready x l (search rules) in
    (left.list, (left.run.raining, left.run.lengths.most))

pub returns-clause-rows_after : goal.returns-clause-rows_after
unfolding inflow_refusal
returns-clause-rows_after c =
    let x = basin c.args.setup c.args.rain.now c.args.subareas.now in
    let l = found c.args.rows.now c.args.outflow.now c.args.storage.now in
    c.fill.ensures ∙ passed_new {v = inflow_refusal x l} (search rules) _ _
