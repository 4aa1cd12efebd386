-- What is found of rows that are held against the old record's parts, and what contracts ask of rows that are run dry with their new inflow; no rule of docs/SCOPE.md is here.
use Rattle.std.specs.Prelude.{List, ℕ, ◌+◌, ◌-◌, ◌/◌, ◌≤◌, length}
use Rattle.laws.specs.Scan.{scan}
use Rattle.laws.specs.Sum.{sum_to}
use Rattle.laws.specs.Limits.{most_rows}
use Rattle.hydrograph.specs.Needs.{RainOk}
use Rattle.sums.specs.declared.Numbers.{Numbers}
use Rattle.sums.specs.Needs.{NumbersOk}
use Rattle.parts.specs.Needs.{part_by}
use Rattle.pond.specs.Needs.{PondOk}
use Rattle.rows.specs.Needs.{InflowOk}
use Rattle.rows.specs.Figures.{at}
use Rattle.refusals.specs.Refusals.{stopped}
use Rattle.alter.specs.Altering.{swapped}
use Rattle.alter.specs.Needs.{PartsFit}
use Rattle.fitting.specs.declared.Fit.{Fit}
use Rattle.fitting.specs.Fits.{inflow_fits}

-- the first of rows vs that does not fit its part, p i that of row i from 0, or their number
abbrev pub unfit_by : (ℕ → ℕ) → List ℕ → ℕ
unfit_by p vs = scan (λ i. inflow_fits (p i) (at vs i)) (length vs) 0

-- how far rows fit: the first that does not, and what the rows before it, or all of them, leave without their parts (exact: `fits`)
abbrev pub fit_by : (ℕ → ℕ) → List ℕ → Fit
fit_by p vs = record { bad = stopped (unfit_by p vs) (length vs); left = sum_to (λ i. at vs i - p i) (unfit_by p vs) }

-- of parts f, and of a list of them fs
abbrev pub fit_of : (ℕ → ℕ) → List ℕ → Fit
fit_of f vs = fit_by (λ i. f (i + 1)) vs

abbrev pub fit_under : List ℕ → List ℕ → Fit
fit_under fs vs = fit_by (at fs) vs

-- the new inflow of the rows after row `from`, by the numbers of the old record and the fresh one
abbrev pub new_after : ℕ → List ℕ → Numbers → Numbers → ℕ → List ℕ → List ℕ
new_after D rain old own from vs = swapped (part_by D rain old) (part_by D rain own) (from + 1) vs

-- rows after row `from` whose new inflow can be worked out and run dry
pub record TailFit (D : ℕ) (rain p : List ℕ) (old own : Numbers) (from : ℕ) (vs : List ℕ) : Type 0 where
  pub pond : PondOk (D / 2) p
  pub raining : RainOk rain
  pub was : NumbersOk D old
  pub is : NumbersOk D own
  pub parted : PartsFit (part_by D rain old) from vs
  pub new : InflowOk (new_after D rain old own from vs)
  pub few : from + length vs ≤ most_rows
