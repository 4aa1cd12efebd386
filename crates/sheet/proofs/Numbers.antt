-- What a study's answer tells of its rows' numbers: the engine's own law, `row_numbers`, and that the peak's row is one of the rows. Assumes nothing.
use mathlib.Core.Path.{◌≡◌, refl, ◌∙◌}
use mathlib.Core.List.{[], ◌∷◌}
use Prim.Native.Nat.{◌-◌, ◌≤◌}
use native.Mathlib.Omega.{arith}
use lib.ListN.{length}
use Rattle.std.specs.Prelude.{Ok, Err}
use Rattle.laws.proofs.Listed.{rows_length}
use Rattle.pond.specs.PondRows.{empty}
use Rattle.rows.specs.Routing.{outflows, outflow_of}
use Rattle.rows.specs.Figures.{figures_of, kept_to, peak_row}
use Rattle.rows.proofs.Columns.{column_length}
use Rattle.rows.proofs.Keeping.{peak_there}
use Rattle.refusals.specs.Refusals.{Line, none, answer}
use Rattle.refusals.proofs.Orders.{both_pass}
use Rattle.subarea.specs.Records.{half_of}
use Rattle.checks.specs.Site.{Site, Rows, asked}
use Rattle.checks.specs.Order.{check_lines}
use Rattle.checks.proofs.Ready.{site_ok}
use Rattle.inflow.specs.Inflow.{inflow_at, inflow_of}
use Rattle.study.specs.Study.{over_of, study_refusal, study_figures, study_answer}
use Rattle.study.proofs.Order.{study_passes, row_numbers}
use Rattle.sheet.specs.Bounds.{Told}

module _ (x : Site) (l : Rows) where
  outflow_length : length (outflows (half_of x.setup) x.pond empty (inflow_of x l)) ≡ asked l
  outflow_length =
      column_length (half_of x.setup) x.pond outflow_of empty (inflow_of x l)
      ∙ rows_length (inflow_at x.setup x.rain x.subareas) 1 (asked l)

  module _ (done : study_refusal x l ≡ none) where
    some : 1 ≤ asked l
    some = (site_ok x l (both_pass (check_lines x l) (over_of x l ∷ []) (study_passes x l done)).0).basin.run.lengths.least

    peak_of_rows : (1 ≤ (study_figures x l).row) × ((study_figures x l).row ≤ asked l)
    unfolding figures_of kept_to peak_row
    peak_of_rows =
        let os = outflows (half_of x.setup) x.pond empty (inflow_of x l) in
        (omega arith, omega (arith, outflow_length, peak_there os (length os) (omega (arith, outflow_length, some))))

    figures_told : Told x.setup.first (asked l) (Ok (study_figures x l))
    figures_told = (omega (arith, some, row_numbers x l done (asked l - 1) (omega (arith, some))), peak_of_rows)

  pub told : Told x.setup.first (asked l) (study_answer x l)
  unfolding study_answer
  told = go (study_refusal x l) refl
    where
      go : (v : Line) → study_refusal x l ≡ v → Told x.setup.first (asked l) (answer v (study_figures x l))
      go (Ok u) e = figures_told e
      go (Err v) e = tt
