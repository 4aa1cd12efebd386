-- `marks::mark_and_point` meets its contract. Assumes nothing.
use mathlib.Core.Path.{◌≡◌, ◌∙◌}
use Prim.Native.Nat.{◌+◌, ◌-◌}
use native.Mathlib.Omega.{arith}
use lib.ListN.{length}
use Rattle.rows.specs.Figures.{at, peak_row}
use Rattle.marks.specs.ChartMarks.{mark_at, marked_of}
use Rattle.marks.proofs.Ready.{asked_ok}
use Rattle.marks.proofs.mark_and_point.Goals as goal

pub mark_of-mark-requires : goal.mark_of-mark-requires
mark_of-mark-requires c = (rw (c.new-pond.ensures.half, c.new-pond.ensures.numbers) (asked_ok c.requires), omega (arith, c.requires.least, c.requires.most))

pub returns : goal.returns
unfolding marked_of
returns c =
    let os = c.args.outflow.now in
    let row : c.args.row - 1 + 1 ≡ c.args.row = omega (arith, c.requires.least) in
    let pond = c.new-pond.ensures in
    let mark = c.mark_of-mark.ensures ∙ (λ i. mark_at (pond.half i) (pond.numbers i) (peak_row os (length os)) (row i) (at os (c.args.row - 1)) (at c.args.storage.now (c.args.row - 1))) in
    λ i. record { mark = mark i; point = c.point_of-point.ensures i }
