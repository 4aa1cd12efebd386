-- `rows::figures_of` meets its contract: all rows are tallied. Assumes nothing.
use native.Mathlib.Omega.{arith}
use Rattle.rows.proofs.Turns.{sums_ok, rows_before, figures_told, tally_most}
use Rattle.rows.proofs.figures_of.Goals as goal

pub tally_of-tally-requires : goal.tally_of-tally-requires
tally_of-tally-requires c =
    let rows = c.requires.0 in
    record {
      sums_ok = (sums_ok c.args.pond.now.sound (rows_before rows _ (omega arith)), (c.requires.1.0, rows.few));
      a_in_bounds = (omega (arith, c.requires.1.1.0), (omega arith, omega (arith, rows.long)));
    }

pub kept-requires : goal.kept-requires
kept-requires c =
    tally_most c.args.inflow.now c.tally_of-tally.result (rows_before c.requires.0 _ (omega arith)) c.tally_of-tally.ensures

pub returns : goal.returns
returns c =
    let g = c.tally_of-tally in
    rw c.kept.ensures (figures_told c.args.pond.now.sound c.args.inflow.now c.args.outflow.now c.args.storage.now c.requires.0 c.requires.1.1.0 g.result g.ensures)
