-- docs/SCOPE.md, 'Refusal numbers and their order': 1 to 13, 19 and 20, each a line, in lists by group. An order is read off its list, top to bottom; '1 to 5' names the lines from 1's to 5's, so 19's and 20's too, here and in the comments of every crate.
use Rattle.std.specs.Prelude.{Bool, ◌&&◌, List, [], ◌∷◌, ◌++◌, map, ℕ, ◌+◌, ◌-◌, ◌%◌, length, get_or, leb, eqb, Option}
use Rattle.laws.specs.Pick.{pick}
use Rattle.laws.specs.Sum.{sum_to}
use Rattle.laws.specs.Within.{within}
use Rattle.laws.specs.Limits.{most_rows, least_step, most_step, last_number, most_rain, most_rise, most_subareas, most_area}
use Rattle.travel.specs.TravelTime.{rule_good}
use Rattle.hydrograph.specs.InflowRows.{concentration_good, peak_good, weights_good}
use Rattle.pond.specs.PondRows.{count_good, first_bad, first_short}
use Rattle.rows.specs.Figures.{first_forged}
use Rattle.refusals.specs.declared.Rule.{Rule}
use Rattle.refusals.specs.declared.Rule.TheVariants.{Lengths, Step, Rain, LastRow, Subareas, Patches, Segments, Area, Concentration, Coarse, Weights, PondTable, PondHeld, Forged, Rise, SheetRule}
use Rattle.refusals.specs.Refusals.{Line, unless, first_of, first_at}
use Rattle.laws.specs.Search.{first_bad_of}
use Rattle.subarea.specs.declared.Setup.{Setup}
use Rattle.subarea.specs.Records.{half_of, width, records_in, record_at, area_of, time_of, patches_pass, segments_pass}
use Rattle.checks.specs.Site.{Site, Rows, asked}

-- 1: the row lists have one length, from 1 to 2,000
unfoldable pub lengths_good : Rows → Bool
lengths_good l = eqb (length l.outflow) (asked l) && (eqb (length l.storage) (asked l) && within 1 (asked l) most_rows)

-- 2: the step is even, 60 to 3,600
unfoldable pub step_good : ℕ → Bool
step_good D = within least_step D most_step && eqb (D % 2) 0

-- 3: n + 1 entries, 1 <= n <= m; entry 0 is 0, none falls, none is above 30,000 (i - 1 is read only where i is not 0)
unfoldable pub entries_good : List ℕ → ℕ → Bool
entries_good rain m = within 2 (length rain) (m + 1)

abbrev pub entry_good : List ℕ → ℕ → Bool
entry_good rain i = leb (get_or rain i 0) most_rain && pick (eqb i 0) (eqb (get_or rain i 0) 0) (leb (get_or rain (i - 1) 0) (get_or rain i 0))

abbrev pub first_entry : List ℕ → Option ℕ
first_entry rain = first_bad_of (entry_good rain) (length rain)

-- 19 (Q-1): no leap, that is no entry more than 4,000 above the one before (entry 0 has none before it: i - 1 stops at 0, and it is held to itself)
abbrev pub rise_good : List ℕ → ℕ → Bool
rise_good rain i = leb (get_or rain i 0) (get_or rain (i - 1) 0 + most_rise)

abbrev pub first_leap : List ℕ → Option ℕ
first_leap rain = first_bad_of (rise_good rain) (length rain)

-- 4: the last row number, first + m - 1, is at most 9,007,199,254,740,991 (exact: 1 leaves m at least 1, `frame_ok`)
unfoldable pub last_good : ℕ → ℕ → Bool
last_good first m = leb (first + m - 1) last_number

-- 5: whole records, 1 to 16
unfoldable pub records_good : List ℕ → Bool
records_good s = eqb (length s % width) 0 && within 1 (records_in s) most_subareas

-- 1 and 2
abbrev pub frame_lines : ℕ → Rows → List Line
frame_lines D l = unless Lengths (lengths_good l) ∷ unless Step (step_good D) ∷ []

-- 3, of m rows asked (two lines: the count, place 0, and the first bad entry, from 0), then 19 (the later entry of the first leap)
abbrev pub rain_lines : List ℕ → ℕ → List Line
rain_lines rain m =
    unless Rain (entries_good rain m)
    ∷ first_at Rain (first_entry rain)
    ∷ first_at Rise (first_leap rain)
    ∷ []

-- 1 to 4, with 20 (Q-4), the sheet rule, after 2: what is asked before the subareas
abbrev pub fore_lines : Setup → List ℕ → Rows → List Line
fore_lines g rain l =
    frame_lines g.step l
    ++ (unless SheetRule (rule_good g.rule) ∷ [])
    ++ rain_lines rain (asked l)
    ++ (unless LastRow (last_good g.first (asked l)) ∷ [])

-- 1 to 5
abbrev pub run_lines : Site → Rows → List Line
run_lines x l = fore_lines x.setup x.rain l ++ (unless Subareas (records_good x.subareas) ∷ [])

-- a test of a list of subareas, after its rule: of each record, or of all areas together
pub data ListTest : Type 0 where
  each : Rule → (List ℕ → Bool) → ListTest
  total : Rule → (ℕ → Bool) → ListTest

-- all areas together
abbrev pub all_area : List ℕ → ℕ
all_area s = sum_to (λ i. area_of (record_at s i)) (records_in s)

-- what a test says of a whole list: its rule at the first record that fails, from 1
abbrev pub over_list : List ℕ → ListTest → Line
over_list s (each r good) = first_of r (first_bad_of (λ i. good (record_at s i)) (records_in s))
over_list s (total r good) = unless r (good (all_area s))

-- 6 and 7: patches, segments by the sheet rule
abbrev pub limit_tests : ℕ → List ListTest
limit_tests rule = each Patches patches_pass ∷ each Segments (segments_pass rule) ∷ []

-- 9 to 11: Tc, D against Tp, 5 Tp against 512 D
abbrev pub timing_tests : Setup → List ListTest
timing_tests g =
    each Concentration (λ r. concentration_good (time_of r))
    ∷ each Coarse (λ r. peak_good g.step (time_of r))
    ∷ each Weights (λ r. weights_good g.step (time_of r))
    ∷ []

-- 6 to 11, each number over the whole list before the next
abbrev pub list_tests : Setup → List ListTest
list_tests g = limit_tests g.rule ++ (total Area (λ a. leb a most_area) ∷ timing_tests g)

abbrev pub list_lines : Setup → List ℕ → List Line
list_lines g s = map (over_list s) (list_tests g)

-- 12 and 13, h half the step (12 has two lines: the count, place 0, and the first bad row)
abbrev pub pond_lines : ℕ → List ℕ → List Line
pond_lines h p =
    unless PondTable (count_good p)
    ∷ first_of PondTable (first_bad p)
    ∷ first_of PondHeld (first_short h p)
    ∷ []

-- 17, of an edit and of a mark: the first row that cannot be the pond's
abbrev pub forged_line : ℕ → List ℕ → Rows → Line
forged_line h p l = first_of Forged (first_forged h p l.outflow l.storage)

-- 1 to 11, and 1 to 13
abbrev pub inflow_lines : Site → Rows → List Line
inflow_lines x l = run_lines x l ++ list_lines x.setup x.subareas

abbrev pub check_lines : Site → Rows → List Line
check_lines x l = inflow_lines x l ++ pond_lines (half_of x.setup) x.pond
