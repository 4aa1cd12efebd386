-- `checks::study_checks` meets its contract. Assumes nothing.
use Rattle.std.proofs.Common.{rules, ◌∙◌}
use Rattle.checks.specs.Site.{site, found}
use Rattle.checks.proofs.Ready.{study_stops, study_goes, half_left}
use Rattle.checks.proofs.study_checks.Goals as goal

pub returns-in_err-inflow_checks : goal.returns-in_err-inflow_checks
returns-in_err-inflow_checks c =
    let l = found c.args.inflow.now c.args.outflow.now c.args.storage.now in
    search (rules, study_stops c.args.setup c.args.rain.now c.args.subareas.now c.args.pond.now l)

pub pond_checks-requires : goal.pond_checks-requires
pond_checks-requires c =
    let x = site c.args.setup c.args.rain.now c.args.subareas.now c.args.pond.now in
    let l = found c.args.inflow.now c.args.outflow.now c.args.storage.now in
    half_left x l (search rules)

pub returns : goal.returns
returns c =
    let l = found c.args.inflow.now c.args.outflow.now c.args.storage.now in
    c.pond_checks.ensures ∙ study_goes c.args.setup c.args.rain.now c.args.subareas.now c.args.pond.now l c.in_ok-inflow_checks.ensures
