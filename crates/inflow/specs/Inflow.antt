-- docs/SCOPE.md, 'Inflow rows': the parts of the subareas, summed row by row; and the inflow rows alone, without a pond.
use Rattle.std.specs.Prelude.{List, ℕ}
use Rattle.laws.specs.Sum.{sum_to}
use Rattle.laws.specs.Listed.{rows_from}
use Rattle.hydrograph.specs.InflowRows.{part}
use Rattle.refusals.specs.Refusals.{Line, first_refusal, after}
use Rattle.subarea.specs.declared.Setup.{Setup}
use Rattle.subarea.specs.Records.{records_in, record_at, area_of, curve_tenths, peak_of}
use Rattle.checks.specs.Site.{Site, Rows, asked}
use Rattle.checks.specs.Order.{inflow_lines}

-- subarea r's part of row k
abbrev pub part_of : Setup → List ℕ → List ℕ → ℕ → ℕ
part_of g rain r k = part (curve_tenths r) (area_of r) (peak_of g r) g.step rain k

-- a row's inflow volume is the sum over subareas
abbrev pub inflow_at : Setup → List ℕ → List ℕ → ℕ → ℕ
inflow_at g rain s k = sum_to (λ i. part_of g rain (record_at s i) k) (records_in s)

-- the inflow rows 1 to m
abbrev pub inflow_rows : Setup → List ℕ → List ℕ → ℕ → List ℕ
inflow_rows g rain s m = rows_from (inflow_at g rain s) 1 m

-- as many as there are asked
abbrev pub inflow_of : Site → Rows → List ℕ
inflow_of x l = inflow_rows x.setup x.rain x.subareas (asked l)

-- the inflow rows alone: the first refusal in the order 1 to 11, with 20 after 2 and 19 after 3, and the inflow list afterwards
unfoldable pub inflow_refusal : Site → Rows → Line
inflow_refusal x l = first_refusal (inflow_lines x l)

abbrev pub inflow_after : Site → Rows → List ℕ
inflow_after x l = after (inflow_refusal x l) (inflow_of x l) l.inflow
