-- `checks::inflow_checks` meets its contract. Assumes nothing.
use Rattle.std.proofs.Common.{rules}
use Rattle.checks.specs.Site.{basin, found}
use Rattle.checks.proofs.Ready.{inflow_stops, step_left, records_left}
use Rattle.checks.proofs.inflow_checks.Goals as goal

pub returns-in_err-run_checks : goal.returns-in_err-run_checks
returns-in_err-run_checks c =
    let x = basin c.args.setup c.args.rain.now c.args.subareas.now in
    let l = found c.args.inflow.now c.args.outflow.now c.args.storage.now in
    search (rules, inflow_stops x l)

pub list_checks-requires : goal.list_checks-requires
list_checks-requires c =
    let x = basin c.args.setup c.args.rain.now c.args.subareas.now in
    let l = found c.args.inflow.now c.args.outflow.now c.args.storage.now in
    (step_left x l (search rules), records_left x l (search rules))
