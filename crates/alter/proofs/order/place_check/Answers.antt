-- `alter::order::place_check` meets its contract. Assumes nothing.
use Rattle.std.proofs.Common.{rules, ◌≡◌, ap, ◌∙◌}
use lib.ListN.{length}
use Rattle.subarea.specs.Records.{records_in}
use Rattle.subarea.proofs.Subareas.{listed_length}
use Rattle.alter.specs.Altering.{place_good}
use Rattle.alter.proofs.order.place_check.Goals as goal

pub returns : goal.returns
unfolding place_good
returns c =
    let s = c.args.subareas.now in
    let many : length c.records-n.result.now ≡ records_in s = ap length c.records-n.ensures ∙ listed_length s in
    rw (← many) (search rules)
