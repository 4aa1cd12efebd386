-- What contracts ask of a site, and proofs use; no rule of docs/SCOPE.md is here.
use Rattle.std.specs.Prelude.{◌≡◌, true, Result, Ok, Err, List, ℕ, ◌+◌, ◌-◌, ◌≤◌, ◌<◌, length, get_or}
use Rattle.laws.specs.Limits.{most_rows, least_step, most_step, last_number, most_rise, most_area}
use Rattle.travel.specs.TravelTime.{sheet_limit}
use Rattle.travel.specs.Needs.{SheetsWithin}
use Rattle.hydrograph.specs.Needs.{TimingOk, RainOk}
use Rattle.pond.specs.Needs.{PondOk}
use Rattle.refusals.specs.declared.Rule.{Rule}
use Rattle.refusals.specs.declared.Refusal.{Refusal}
use Rattle.refusals.specs.Refusals.{Line, none, charge}
use Rattle.subarea.specs.declared.Setup.{Setup}
use Rattle.subarea.specs.Records.{half_of, width, records_in, record_at, segments, peak_of, patches_pass}
use Rattle.subarea.specs.Needs.{RecordsOk, RoutedOk}
use Rattle.checks.specs.Site.{Site, Rows, asked}
use Rattle.checks.specs.Order.{ListTest, each, total, all_area}

-- a test of one record r at place k
abbrev pub over_record : List ℕ → ℕ → ListTest → Line
over_record r k (each n good) = charge n (good r) k
over_record r k (total n good) = none

-- what an answer says of a line: none where it holds something
abbrev pub line_of : {A : Type 0} → Result A (Refusal Rule) → Line
line_of (Ok a) = none
line_of (Err e) = Err e

-- a step within its limits
pub record StepOk (D : ℕ) : Type 0 where
  pub least : least_step ≤ D
  pub most : D ≤ most_step

-- a sheet rule that there is
pub record RuleOk (rule : ℕ) : Type 0 where
  pub least : 1 ≤ rule
  pub most : rule ≤ 2

-- three lists of one length, from 1 to 2,000
pub record LengthsOk (l : Rows) : Type 0 where
  pub out_long : length l.outflow ≡ asked l
  pub held_long : length l.storage ≡ asked l
  pub least : 1 ≤ asked l
  pub most : asked l ≤ most_rows

-- a rain without a leap: no entry is more than 4,000 above the one before
pub record RisesOk (rain : List ℕ) : Type 0 where
  pub each : (i : ℕ) → i + 1 < length rain → get_or rain (i + 1) 0 ≤ get_or rain i 0 + most_rise

-- what 1 to 5 leave
pub record RunOk (x : Site) (l : Rows) : Type 0 where
  pub lengths : LengthsOk l
  pub step : StepOk x.setup.step
  pub rule : RuleOk x.setup.rule
  pub few : length x.rain ≤ asked l + 1
  pub raining : RainOk x.rain
  pub rises : RisesOk x.rain
  pub last : x.setup.first + asked l - 1 ≤ last_number
  pub records : RecordsOk x.subareas

-- a record within its limits: what 6, 7, 10 and 11 leave of it
pub record RecordOk (g : Setup) (r : List ℕ) : Type 0 where
  pub whole : length r ≡ width
  pub patched : patches_pass r ≡ true
  pub routed : RoutedOk r
  pub timed : TimingOk g.step (peak_of g r)

-- a list of them: what 5 to 11 leave
pub record ListOk (g : Setup) (s : List ℕ) : Type 0 where
  pub records : RecordsOk s
  pub each : (i : ℕ) → i < records_in s → RecordOk g (record_at s i)
  pub area : all_area s ≤ most_area

-- what 7 leaves of a list's sheet flow: none runs farther than the sheet rule lets it
pub record SheetsOk (g : Setup) (s : List ℕ) : Type 0 where
  pub each : (i : ℕ) → i < records_in s → SheetsWithin (sheet_limit g.rule) (segments (record_at s i))

-- what 1 to 11 leave
pub record BasinOk (x : Site) (l : Rows) : Type 0 where
  pub run : RunOk x l
  pub list : ListOk x.setup x.subareas

-- what 1 to 13 leave
pub record SiteOk (x : Site) (l : Rows) : Type 0 where
  pub basin : BasinOk x l
  pub pond : PondOk (half_of x.setup) x.pond
