-- `checks::records_check` meets its contract. Assumes nothing.
use Rattle.std.proofs.Common.{rules, ◌≡◌, ap, ◌∙◌}
use lib.ListN.{length}
use Rattle.subarea.specs.Records.{records_in}
use Rattle.subarea.proofs.Subareas.{listed_length}
use Rattle.checks.specs.Order.{records_good}
use Rattle.checks.proofs.records_check.Goals as goal

pub returns : goal.returns
unfolding records_good
returns c =
    let s = c.args.subareas.now in
    let many : length c.records.result.now ≡ records_in s = ap length c.records.ensures ∙ listed_length s in
    rw (← many) (search rules)
