-- What contracts ask of segments and times, and proofs use; no rule of document 01 is here.
use Rattle.std.specs.Prelude.{◌≡◌, List, ℕ, ◌*◌, ◌≤◌, ◌<◌, length}
use Rattle.travel.specs.TravelTime.{segment_width, most_segments, segments_in, number_of, kind, unpaved, paved}

-- a segment of kinds 1, 2 and 3 within its limits
pub record RatedOk (L r : ℕ) : Type 0 where
  pub length_least : 1 ≤ L
  pub length_most : L ≤ 4000
  pub rate_least : 1 ≤ r
  pub rate_most : r ≤ 10000

-- sheet flow as far as this, in ft, takes no longer than the slowest channel: what is known of times holds of any length up to it, whatever a sheet rule lets pass of them
abbrev pub farthest_sheet : ℕ
farthest_sheet = 669

-- a segment of sheet flow within its limits, whatever the sheet rule
pub record SheetOk (L n P s : ℕ) : Type 0 where
  pub length_least : 1 ≤ L
  pub length_most : L ≤ farthest_sheet
  pub n_least : 1 ≤ n
  pub n_most : n ≤ 999
  pub rain_least : 1 ≤ P
  pub rain_most : P ≤ 30000
  pub slope_least : 1 ≤ s
  pub slope_most : s ≤ 10000

-- a segment of channel flow within its limits
pub record ChannelOk (L n r s : ℕ) : Type 0 where
  pub length_least : 1 ≤ L
  pub length_most : L ≤ 4000
  pub n_least : 1 ≤ n
  pub n_most : n ≤ 999
  pub radius_least : 1 ≤ r
  pub radius_most : r ≤ 10000
  pub slope_least : 1 ≤ s
  pub slope_most : s ≤ 10000

-- a segment within the limits of its kind, whatever the sheet rule
pub record SegmentOk (k L a b c : ℕ) : Type 0 where
  pub kind_least : 1 ≤ k
  pub kind_most : k ≤ 5
  pub rated : k ≤ 3 → RatedOk L a
  pub sheeted : k ≡ 4 → SheetOk L a b c
  pub channelled : k ≡ 5 → ChannelOk L a b c

-- what a square root of kinds 1 and 2 is asked at
pub record ShallowOk (K L s : ℕ) : Type 0 where
  pub constant_least : unpaved ≤ K
  pub constant_most : K ≤ paved
  pub length_most : L ≤ 4000
  pub slope_least : 1 ≤ s
  pub slope_most : s ≤ 10000

-- a list of segments within its limits, whatever the sheet rule
pub record SegmentsOk (g : List ℕ) : Type 0 where
  pub whole : length g ≡ segment_width * segments_in g
  pub least : 1 ≤ segments_in g
  pub most : segments_in g ≤ most_segments
  pub each : (i : ℕ) → i < segments_in g → SegmentOk (kind g i) (number_of g i 1) (number_of g i 2) (number_of g i 3) (number_of g i 4)
  pub first_sheet : (i : ℕ) → i < segments_in g → kind g i ≡ 4 → i ≡ 0

-- a list of segments whose sheet flow is at most M ft long
pub record SheetsWithin (M : ℕ) (g : List ℕ) : Type 0 where
  pub each : (i : ℕ) → i < segments_in g → kind g i ≡ 4 → number_of g i 1 ≤ M

-- the time of a channel as rough and as long as may be, at the least radius and slope: no segment takes longer
abbrev pub most_segment_time : ℕ
most_segment_time = 5777933

-- a Tc that segments within their limits can have
pub record TimeOk (tc : ℕ) : Type 0 where
  pub least : 360 ≤ tc
  pub most : tc ≤ most_segments * most_segment_time
