-- `alter::order::edit_checks` meets its contract. Assumes nothing.
use Rattle.std.proofs.Common.{rules, ◌∙◌}
use Rattle.checks.specs.Site.{found}
use Rattle.alter.proofs.Ready.{run_stops, list_left, list_stops, altered_left, altered_stops, half_left, pond_after}
use Rattle.alter.proofs.order.edit_checks.Goals as goal

pub returns-in_err-run_checks : goal.returns-in_err-run_checks
returns-in_err-run_checks c =
    let l = found c.args.inflow.now c.args.outflow.now c.args.storage.now in
    search (rules, run_stops c.args.setup c.args.rain.now c.args.subareas.now c.args.pond.now l c.args.place c.args.fresh.now)

pub list_checks-requires : goal.list_checks-requires
list_checks-requires c =
    let l = found c.args.inflow.now c.args.outflow.now c.args.storage.now in
    list_left c.args.setup c.args.rain.now c.args.subareas.now c.args.pond.now l c.args.place c.args.fresh.now (search rules) (search rules) c.requires

pub returns-in_err-list_checks : goal.returns-in_err-list_checks
returns-in_err-list_checks c =
    let l = found c.args.inflow.now c.args.outflow.now c.args.storage.now in
    search (rules, list_stops c.args.setup c.args.rain.now c.args.subareas.now c.args.pond.now l c.args.place c.args.fresh.now (search rules) (search rules))

pub altered_checks-requires : goal.altered_checks-requires
altered_checks-requires c =
    let l = found c.args.inflow.now c.args.outflow.now c.args.storage.now in
    altered_left c.args.setup c.args.rain.now c.args.subareas.now c.args.pond.now l c.args.place c.args.fresh.now (search rules) (search rules) (search rules) c.requires

pub returns-in_err-altered_checks : goal.returns-in_err-altered_checks
returns-in_err-altered_checks c =
    let l = found c.args.inflow.now c.args.outflow.now c.args.storage.now in
    search (rules, altered_stops c.args.setup c.args.rain.now c.args.subareas.now c.args.pond.now l c.args.place c.args.fresh.now (search rules) (search rules) (search rules))

pub pond_checks-requires : goal.pond_checks-requires
pond_checks-requires c =
    let l = found c.args.inflow.now c.args.outflow.now c.args.storage.now in
    half_left c.args.setup c.args.rain.now c.args.subareas.now c.args.pond.now l c.args.place c.args.fresh.now (search rules) (search rules) c.requires

pub returns : goal.returns
returns c =
    let l = found c.args.inflow.now c.args.outflow.now c.args.storage.now in
    c.pond_checks.ensures ∙ pond_after c.args.setup c.args.rain.now c.args.subareas.now c.args.pond.now l c.args.place c.args.fresh.now (search rules) (search rules) (search rules) (search rules)
