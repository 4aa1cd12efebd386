-- `edit::run` meets its contract. Assumes nothing.
use Rattle.std.proofs.Common.{rules}
use mathlib.Core.Path.{◌≡◌, ◌∙◌}
use lib.ListN.{length}
use Rattle.std.specs.Prelude.{Err}
use Rattle.refusals.specs.declared.Rule.{Rule}
use Rattle.refusals.specs.declared.Refusal.{Refusal}
use Rattle.refusals.specs.Refusals.{first_refusal}
use Rattle.checks.specs.Site.{Site, Rows, site, found}
use Rattle.subarea.specs.Records.{width}
use Rattle.alter.specs.Altering.{edit_check_lines}
use Rattle.edit.specs.Edit.{edit_answer, edit_rows}
use Rattle.edit.proofs.Settling.{checks_stop, checks_pass}
use Rattle.edit.proofs.Order.{answer_is}
use Rattle.edit.proofs.Ready.{edit_ok}
use Rattle.edit.proofs.run.Goals as goal
use Rattle.edit.proofs.run.Goals.{Start}

abbrev x : Start → Site
x s = site s.args.setup s.args.rain.now s.args.subareas.now s.args.pond.now

abbrev l : Start → Rows
l s = found s.args.inflow.now s.args.outflow.now s.args.storage.now

-- a check up to 13 refuses
told : (s : Start) {e : Refusal Rule} → Err e ≡ first_refusal (edit_check_lines (x s) (l s) s.args.place s.args.fresh.now) → Err e ≡ edit_answer (x s) (l s) s.args.place s.args.fresh.now
told s e = (checks_stop (x s) (l s) s.args.place s.args.fresh.now e).0

stays : (s : Start) {e : Refusal Rule} → Err e ≡ first_refusal (edit_check_lines (x s) (l s) s.args.place s.args.fresh.now) → l s ≡ edit_rows (x s) (l s) s.args.place s.args.fresh.now
stays s e = (checks_stop (x s) (l s) s.args.place s.args.fresh.now e).1

pub returns-in_err-edit_checks : goal.returns-in_err-edit_checks
returns-in_err-edit_checks c =
    let s = (goal.at.returns-in_err-edit_checks c).Start in
    let value : c.from_residual.result ≡ edit_answer (x s) (l s) s.args.place s.args.fresh.now = search (rules, told s) in
    let rest = answer_is (x s) (l s) s.args.place s.args.fresh.now value in
    record { value = value; storage_value = search (rules, stays s); result_value = rest.0; result_value_2 = rest.1 }

pub work-requires : goal.work-requires
work-requires c =
    let s = (goal.at.work-requires c).Start in
    let w : length s.args.fresh.now ≡ width = search rules in
    edit_ok (x s) (l s) s.args.place s.args.fresh.now w (search rules)

pub returns : goal.returns
returns c =
    let s = (goal.at.returns c).Start in
    let r = checks_pass (x s) (l s) s.args.place s.args.fresh.now (search rules) in
    let y = c.work.ensures.value ∙ r.0 in
    let rest = answer_is (x s) (l s) s.args.place s.args.fresh.now y in
    record { value = y; storage_value = c.work.ensures.storage_value ∙ r.1; result_value = rest.0; result_value_2 = rest.1 }
