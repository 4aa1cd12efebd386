-- `Rows` writes its rows' lines, one behind the other.
use mathlib.Core.Path.{◌≡◌, sym, subst}
use mathlib.Core.List.{List, ◌++◌}
use Prim.Native.Nat.{ℕ, ◌+◌}
use Rattle.std.proofs.Common.{rules}
use Rattle.std.proofs.Output.{has_written_append, has_written_of_eq}
use Rattle.std.specs.Prelude.{codes}
use Rattle.sheet.specs.Text.{ended_line, first_lines}
use Rattle.sheet.proofs.Lines.{lines_more}
use Rattle.sheet.proofs.results.RowsDisplay.fmt.Goals as goal

pub loop-k-preserved : goal.loop-k-preserved
loop-k-preserved g c = λ p.
    let x = c.args.self.now in
    let k = c.loop-k.k in
    let equal = subst
    (λ (line : List ℕ). first_lines x.setup x.pond.table.numbers.now x.inflow.now x.outflow.now x.storage.now k ++ (line ++ codes "\n")
    ≡ first_lines x.setup x.pond.table.numbers.now x.inflow.now x.outflow.now x.storage.now (k + 1))
    (sym c.row_at-row.ensures)
    (lines_more (ended_line x.setup x.pond.table.numbers.now x.inflow.now x.outflow.now x.storage.now) k) in
    has_written_of_eq _ _ _ _ _ equal (has_written_append _ _ _ _ _ _ (c.loop-k.invariant p) (search rules))
