-- What contracts ask of rows that are written anew, and of figures that are told; no rule of docs/SCOPE.md is here.
use Rattle.std.specs.Prelude.{◌≡◌, List, ℕ, ◌/◌, ◌≤◌, length}
use Rattle.hydrograph.specs.Needs.{RainOk}
use Rattle.sums.specs.declared.Numbers.{Numbers}
use Rattle.sums.specs.Needs.{NumbersOk}
use Rattle.parts.specs.Needs.{part_by}
use Rattle.pond.specs.Needs.{PondOk}
use Rattle.rows.specs.Needs.{InflowOk, RowsOk}
use Rattle.rows.specs.declared.RowFigures.{RowFigures}
use Rattle.checks.specs.Site.{Rows}
use Rattle.alter.specs.Needs.{PartsFit}
use Rattle.fitting.specs.Needs.{new_after}

-- the new inflow rows, by the numbers of the old record and the fresh one
abbrev pub new_by : ℕ → List ℕ → Numbers → Numbers → List ℕ → List ℕ
new_by D rain old own vs = new_after D rain old own 0 vs

-- figures whose difference has room
pub record SmallOk (f : RowFigures) : Type 0 where
  pub peak_most : f.kept.peak ≤ 1000000000000000000
  pub released_most : f.kept.released ≤ 1000000000000000000

-- what 16 and 17 leave: numbers whose parts can be worked out, old ones that can be taken away, rows that can be the pond's
pub record SwapFit (D : ℕ) (rain p : List ℕ) (old own : Numbers) (l : Rows) : Type 0 where
  pub pond : PondOk (D / 2) p
  pub raining : RainOk rain
  pub was : NumbersOk D old
  pub is : NumbersOk D own
  pub parted : PartsFit (part_by D rain old) 0 l.inflow
  pub found : InflowOk l.inflow
  pub new : InflowOk (new_by D rain old own l.inflow)
  pub rows : RowsOk (D / 2) p l.outflow l.storage
  pub least : 1 ≤ length l.inflow
  pub out_long : length l.outflow ≡ length l.inflow
