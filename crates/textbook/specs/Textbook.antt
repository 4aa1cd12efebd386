-- The inflow rows as the textbook has them (Q-6): the runoff added in each rain step times each weight, laid into the rows. Of the first engine's definitions it uses runoff depth, weight, W and the volume of a depth, and no other.
use Rattle.std.specs.Prelude.{List, ℕ, ◌+◌, ◌-◌, ◌*◌, ◌/◌, length, get_or, eqb}
use Rattle.laws.specs.Pick.{pick}
use Rattle.laws.specs.Sum.{sum_to, sum_from1}
use Rattle.laws.specs.Listed.{rows_from}
use Rattle.runoff.specs.RunoffDepth.{depth}
use Rattle.hydrograph.specs.InflowRows.{weight, weights, total_weight, volume_of}
use Rattle.refusals.specs.Refusals.{Line, first_refusal, after}
use Rattle.subarea.specs.declared.Setup.{Setup}
use Rattle.subarea.specs.Records.{records_in, record_at, area_of, curve_tenths, peak_of}
use Rattle.checks.specs.Site.{Site, Rows, asked}
use Rattle.checks.specs.Order.{inflow_lines}

-- the rain steps, each from one entry to the next (exact: 3 leaves 2 entries at least, `run_ok` of checks)
abbrev pub rain_steps : List ℕ → ℕ
rain_steps rain = length rain - 1

-- the runoff of rain entry t, on curve number c in tenths
abbrev pub runoff_of : ℕ → List ℕ → ℕ → ℕ
runoff_of c rain t = depth c (get_or rain t 0)

-- the runoff added in rain step t, from 1: the difference of two whole runoffs (exact: `runoff_up`)
unfoldable pub added : ℕ → List ℕ → ℕ → ℕ
added c rain t = runoff_of c rain t - runoff_of c rain (t - 1)

-- what rain step t with weight j puts into row k: its piece v where k is t + j - 1, else nothing (exact: both count from 1)
abbrev pub in_row : ℕ → ℕ → ℕ → ℕ → ℕ
in_row k t j v = pick (eqb (t + j - 1) k) v 0

-- all that is laid into row k: of each rain step with each weight
abbrev pub laid : ℕ → ℕ → ℕ → List ℕ → ℕ → ℕ
laid c Tp D rain k = sum_from1 (λ t. sum_from1 (λ j. in_row k t j (added c rain t * weight Tp D j)) (weights Tp D)) (rain_steps rain)

-- the depth through row k: all that is laid into the rows up to it, divided by W, down
unfoldable pub depth_laid : ℕ → ℕ → ℕ → List ℕ → ℕ → ℕ
depth_laid c Tp D rain k = sum_from1 (laid c Tp D rain) k / total_weight Tp D

-- the volume through row k
abbrev pub volume_laid : ℕ → ℕ → ℕ → ℕ → List ℕ → ℕ → ℕ
volume_laid c A Tp D rain k = volume_of A (depth_laid c Tp D rain k)

-- a subarea's part of row k: that less the same through row k - 1 (exact: `laid_rises`)
unfoldable pub part_laid : ℕ → ℕ → ℕ → ℕ → List ℕ → ℕ → ℕ
part_laid c A Tp D rain k = volume_laid c A Tp D rain k - volume_laid c A Tp D rain (k - 1)

-- subarea r's part of row k
abbrev pub part_laid_of : Setup → List ℕ → List ℕ → ℕ → ℕ
part_laid_of g rain r k = part_laid (curve_tenths r) (area_of r) (peak_of g r) g.step rain k

-- a row's inflow volume is the sum over subareas
abbrev pub textbook_at : Setup → List ℕ → List ℕ → ℕ → ℕ
textbook_at g rain s k = sum_to (λ i. part_laid_of g rain (record_at s i) k) (records_in s)

-- the inflow rows 1 to m
abbrev pub textbook_rows : Setup → List ℕ → List ℕ → ℕ → List ℕ
textbook_rows g rain s m = rows_from (textbook_at g rain s) 1 m

-- as many as there are asked
abbrev pub textbook_of : Site → Rows → List ℕ
textbook_of x l = textbook_rows x.setup x.rain x.subareas (asked l)

-- the first refusal in the order 1 to 11, with 20 after 2 and 19 after 3, and the inflow list afterwards
unfoldable pub textbook_refusal : Site → Rows → Line
textbook_refusal x l = first_refusal (inflow_lines x l)

abbrev pub textbook_after : Site → Rows → List ℕ
textbook_after x l = after (textbook_refusal x l) (textbook_of x l) l.inflow
