-- `Rows` writes its rows' lines, one behind the other.
use Rattle.std.specs.Fmt.{HasWritten, IsPlainFormatter}
use Rattle.sheet.specs.Text.{first_lines}
use Rattle.sheet.proofs.results.RowsDisplay.fmt.Given as goal

abbrev pub invariant-loop-k : goal.invariant-loop-k
invariant-loop-k g l =
    let x = l.fn.self in
    IsPlainFormatter l.initial.f → HasWritten g.W.Write.write_str_gives l.initial.f
    (first_lines x.setup x.pond.table.numbers.now x.inflow.now x.outflow.now x.storage.now l.k) l.f
