-- `checks::pond_check` meets its contract. Assumes nothing.
use mathlib.Core.Path.{ap, ◌∙◌}
use mathlib.Core.List.{List}
use Prim.Native.Nat.{ℕ}
use Rattle.pond.specs.PondRows.{first_short}
use Rattle.refusals.specs.declared.Rule.TheVariants.{PondHeld}
use Rattle.refusals.specs.Refusals.{first_of}
use Rattle.checks.proofs.Ready.{table_goes}
use Rattle.checks.proofs.pond_check.Goals as goal

pub returns-clause-line : goal.returns-clause-line
returns-clause-line c =
    c.held_check.ensures.line
    ∙ ap (λ (p : List ℕ). first_of PondHeld (first_short c.args.half p)) c.in_ok-table.ensures.table
    ∙ table_goes c.args.half c.args.pond.now c.in_ok-table.ensures.line
