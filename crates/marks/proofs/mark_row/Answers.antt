-- `marks::mark_row` meets its contract. Assumes nothing.
use mathlib.Core.Path.{sym}
use Rattle.std.proofs.Common.{rules}
use Rattle.checks.specs.Site.{found}
use Rattle.marks.proofs.Ready.{mark_ok}
use Rattle.marks.proofs.mark_row.Goals as goal

pub mark_and_point-requires : goal.mark_and_point-requires
mark_and_point-requires c =
    mark_ok c.args.step c.args.first c.args.pond.now (found c.args.inflow.now c.args.outflow.now c.args.storage.now) c.args.row (sym (search rules))
