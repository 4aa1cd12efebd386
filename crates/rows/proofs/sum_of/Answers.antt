-- `rows::sum_of` meets its contract. Assumes nothing.
use Rattle.std.proofs.Common.{rules, ◌≡◌, ◌<◌, ◌^◌, ◌∙◌}
use Rattle.std.specs.Prelude.{sum}
use Rattle.rows.proofs.Totals.{sum_total, sum_fits}
use Rattle.rows.proofs.sum_of.Goals as goal

pub sum-requires-clause-fits : goal.sum-requires-clause-fits
sum-requires-clause-fits c =
    let fits : sum c.args.list.now < 2 ^ 64 = sum_fits c.args.list.now c.requires.0 c.requires.1 in
    search rules

pub returns : goal.returns
returns c =
    let is : c.sum.result ≡ sum c.args.list.now = search rules in
    is ∙ sum_total c.args.list.now
