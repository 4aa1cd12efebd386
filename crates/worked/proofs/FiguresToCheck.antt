-- Every line holds: one statement, by computation. Assumes nothing.
use mathlib.Core.Path.{◌≡◌, refl}
use mathlib.Core.List.{map}
use Rattle.laws.specs.Scan.{scan}
use Rattle.laws.specs.Sum.{sum_to}
use Rattle.curve.specs.CurveNumbers.{cover_table, cover_number, total_area, weighted, nearest, mean_tenths, composite_tenths}
use Rattle.runoff.specs.RunoffDepth.{depth}
use Rattle.roots.specs.Largest.{largest}
use Rattle.travel.specs.TravelTime.{shallow, segment_time}
use Rattle.hydrograph.specs.InflowRows.{time, ratio, line_at, on_line, weight, volume_of}
use Rattle.pond.specs.PondRows.{sum_at, lower, between, discharge_at, arrived, settled}
use Rattle.rows.specs.Routing.{states, total}
use Rattle.worked.specs.Lines.{Line, lines}

pub figures_to_check : map (λ (l : Line). l.given) lines ≡ map (λ (l : Line). l.figure) lines
unfolding sum_to cover_table cover_number total_area weighted nearest mean_tenths composite_tenths depth largest shallow segment_time scan time ratio line_at on_line weight volume_of sum_at lower between discharge_at arrived settled states total
figures_to_check = refl
