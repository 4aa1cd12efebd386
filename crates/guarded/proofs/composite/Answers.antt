-- `guarded::composite` calls the engine only with patches that pass its test.
use mathlib.Core.Path.{sym, ◌∙◌}
use Rattle.curve.proofs.Limits.{patches_ok}
use Rattle.guarded.proofs.composite.Goals as goal

pub composite-requires : goal.composite-requires
composite-requires c = patches_ok _ (sym c.patches_good.ensures ∙ c.if-patches_good.true)
