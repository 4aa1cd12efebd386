-- `marks::mark_refusal` meets its contract. Assumes nothing.
use Rattle.std.proofs.Common.{rules, ◌∙◌}
use Rattle.rows.specs.Figures.{first_forged}
use Rattle.refusals.specs.declared.Rule.TheVariants.{Forged}
use Rattle.refusals.specs.Refusals.{first_of}
use Rattle.checks.specs.Site.{found}
use Rattle.marks.proofs.Ready.{half_left, long_left, mark_ends}
use Rattle.marks.proofs.mark_refusal.Goals as goal

pub pond_check-requires : goal.pond_check-requires
pond_check-requires c =
    half_left c.args.step c.args.first (found c.args.inflow.now c.args.outflow.now c.args.storage.now) (search rules)

pub forged_check-requires : goal.forged_check-requires
forged_check-requires c =
    long_left c.args.step c.args.first (found c.args.inflow.now c.args.outflow.now c.args.storage.now) (search rules)

pub returns : goal.returns
returns c =
    let l = found c.args.inflow.now c.args.outflow.now c.args.storage.now in
    let pond = c.in_ok-pond.ensures.pond in
    c.forged_check.ensures
    ∙ (λ i. first_of Forged (first_forged (pond.1 i) (pond.0 i) l.outflow l.storage))
    ∙ mark_ends c.args.step c.args.first c.args.pond.now l c.args.row (search rules) (search rules) (search rules)
