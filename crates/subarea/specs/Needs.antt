-- What contracts ask of records, and proofs use; no rule of document 01 is here.
use Rattle.std.specs.Prelude.{◌≡◌, true, List, ℕ, ◌*◌, ◌≤◌, ◌<◌, length}
use Rattle.laws.specs.Limits.{most_subareas}
use Rattle.travel.specs.TravelTime.{most_segments}
use Rattle.travel.specs.Needs.{SegmentsOk}
use Rattle.subarea.specs.Records.{width, records_in, record_at, patches_pass, segment_count, segments}

-- what 5 leaves: whole records, 1 to 16
pub record RecordsOk (s : List ℕ) : Type 0 where
  pub whole : length s ≡ width * records_in s
  pub least : 1 ≤ records_in s
  pub most : records_in s ≤ most_subareas

-- what 7 leaves of a record, whatever the sheet rule
pub record RoutedOk (r : List ℕ) : Type 0 where
  pub least : 1 ≤ segment_count r
  pub most : segment_count r ≤ most_segments
  pub fits : SegmentsOk (segments r)

-- what 6 and 7 leave of a list
pub record AllPatches (s : List ℕ) : Type 0 where
  pub each : (i : ℕ) → i < records_in s → patches_pass (record_at s i) ≡ true

pub record AllSegments (s : List ℕ) : Type 0 where
  pub each : (i : ℕ) → i < records_in s → RoutedOk (record_at s i)
