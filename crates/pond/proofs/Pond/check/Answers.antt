-- `Pond::check` meets its contract. Assumes nothing.
use mathlib.Core.Path.{sym, ◌∙◌}
use Rattle.pond.proofs.Limits.{pond_ok}
use Rattle.pond.proofs.Pond.check.Goals as goal

pub invariant_of-result : goal.invariant_of-result
invariant_of-result c = record { sound = pond_ok c.requires c.args.table.now.sound (sym c.first_short.ensures.value ∙ c.in-None.is) }
