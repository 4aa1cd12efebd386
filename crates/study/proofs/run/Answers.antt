-- `study::run` meets its contract. Assumes nothing.
use Rattle.std.proofs.Common.{rules}
use mathlib.Core.Path.{◌≡◌, ◌∙◌}
use Rattle.checks.specs.Site.{Site, Rows, site, found}
use Rattle.checks.proofs.Ready.{study_ready}
use Rattle.study.specs.Study.{study_answer}
use Rattle.study.proofs.Settling.{stopped_told, stopped_left, decided}
use Rattle.study.proofs.Order.{study_told}
use Rattle.study.proofs.run.Goals as goal
use Rattle.study.proofs.run.Goals.{Start}

abbrev x : Start → Site
x s = site s.args.setup s.args.rain.now s.args.subareas.now s.args.pond.now

abbrev l : Start → Rows
l s = found s.args.inflow.now s.args.outflow.now s.args.storage.now

pub returns-in_err-study_checks : goal.returns-in_err-study_checks
returns-in_err-study_checks c =
    let s = (goal.at.returns-in_err-study_checks c).Start in
    let value : c.from_residual.result ≡ study_answer (x s) (l s) = search (rules, stopped_told (x s) (l s)) in
    let told = study_told (x s) (l s) c.from_residual.result value in
    record { value = value; storage_value = search (rules, stopped_left (x s) (l s)); result_value = told.0; result_value_2 = told.1 }

pub work-requires : goal.work-requires
work-requires c = let s = (goal.at.work-requires c).Start in study_ready (x s) (l s) (search rules)

pub returns : goal.returns
returns c =
    let s = (goal.at.returns c).Start in
    let f = c.work.ensures in
    let r = decided (x s) (l s) (search rules) in
    let told = study_told (x s) (l s) c.work.result (f.value ∙ r.0) in
    record { value = f.value ∙ r.0; storage_value = f.storage_value ∙ r.1; result_value = told.0; result_value_2 = told.1 }
