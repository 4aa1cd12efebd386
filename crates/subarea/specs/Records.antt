-- Document 01, 'What a study is made of': the subareas as one flat list of records, and the numbers of a record that the rules use. Records count from 0 here, places from 1.
use Rattle.std.specs.Prelude.{◌≡◌, Bool, ◌&&◌, List, ℕ, ◌+◌, ◌*◌, ◌/◌, ◌<◌, length, get_or, take, drop}
use Rattle.laws.specs.Within.{within}
use Rattle.curve.specs.CurveNumbers.{patch_width, most_patches, total_area, composite_tenths, patches_good}
use Rattle.travel.specs.TravelTime.{segment_width, most_segments, concentration, time_to_peak, sheet_limit, segments_good, SameSegments}
use Rattle.subarea.specs.declared.Setup.{Setup}

-- h, half the step
abbrev pub half_of : Setup → ℕ
half_of g = g.step / 2

-- a record: patch count, 8 patches, segment count, 6 segments
abbrev pub patches_from : ℕ
patches_from = 1

abbrev pub segment_count_at : ℕ
segment_count_at = patches_from + patch_width * most_patches

abbrev pub segments_from : ℕ
segments_from = segment_count_at + 1

abbrev pub width : ℕ
width = segments_from + segment_width * most_segments

-- how many records
abbrev pub records_in : List ℕ → ℕ
records_in s = length s / width

-- record i, from 0
abbrev pub record_at : List ℕ → ℕ → List ℕ
record_at s i = take width (drop (width * i) s)

-- the patches and the segments within a record's counts
abbrev pub patch_count : List ℕ → ℕ
patch_count r = get_or r 0 0

abbrev pub patches : List ℕ → List ℕ
patches r = take (patch_width * patch_count r) (drop patches_from r)

abbrev pub segment_count : List ℕ → ℕ
segment_count r = get_or r segment_count_at 0

abbrev pub segments : List ℕ → List ℕ
segments r = take (segment_width * segment_count r) (drop segments_from r)

-- a record's area, curve number in tenths, Tc and Tp
abbrev pub area_of : List ℕ → ℕ
area_of r = total_area (patches r)

abbrev pub curve_tenths : List ℕ → ℕ
curve_tenths r = composite_tenths (patches r)

abbrev pub time_of : List ℕ → ℕ
time_of r = concentration (segments r)

abbrev pub peak_of : Setup → List ℕ → ℕ
peak_of g r = time_to_peak g.step (time_of r)

-- refusal 6: patch count and patches within their limits
unfoldable pub patches_pass : List ℕ → Bool
patches_pass r = within 1 (patch_count r) most_patches && patches_good (patches r)

-- refusal 7: segment count and segments within their limits, by the sheet rule
unfoldable pub segments_pass : ℕ → List ℕ → Bool
segments_pass rule r = within 1 (segment_count r) most_segments && segments_good (sheet_limit rule) (segments r)

-- two records of which the same is read: their counts, and what stands within them but for spare numbers of segments
pub record SameRecord (r q : List ℕ) : Type 0 where
  pub patch_counts : patch_count r ≡ patch_count q
  pub patched : patches r ≡ patches q
  pub segment_counts : segment_count r ≡ segment_count q
  pub routed : SameSegments (segments r) (segments q)

-- two lists of subareas of which the same is read
pub record SameRead (s u : List ℕ) : Type 0 where
  pub long : length s ≡ length u
  pub each : (i : ℕ) → i < records_in s → SameRecord (record_at s i) (record_at u i)
