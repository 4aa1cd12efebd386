-- Each promise of a public function allows one answer. Assumes nothing.
use Rattle.laws.proofs.OneAnswer.{OneAnswer, same}
use Rattle.travel.proofs.segment_time.Kinds as segment-time-kinds
use Rattle.travel.proofs.segment_time.Reads as segment-time-reads
use Rattle.travel.proofs.rule_good.Kinds as rule-good-kinds
use Rattle.travel.proofs.rule_good.Reads as rule-good-reads
use Rattle.travel.proofs.sheet_limit.Kinds as sheet-limit-kinds
use Rattle.travel.proofs.sheet_limit.Reads as sheet-limit-reads
use Rattle.travel.proofs.segments_good.Kinds as segments-good-kinds
use Rattle.travel.proofs.segments_good.Reads as segments-good-reads
use Rattle.travel.proofs.concentration.Kinds as concentration-kinds
use Rattle.travel.proofs.concentration.Reads as concentration-reads
use Rattle.travel.proofs.time_to_peak.Kinds as time-to-peak-kinds
use Rattle.travel.proofs.time_to_peak.Reads as time-to-peak-reads
use Rattle.travel.proofs.segment.SegmentTryFromArrayU64SEGMENTWIDTH.try_from.Kinds as segment-try-from-kinds
use Rattle.travel.proofs.segment.SegmentTryFromArrayU64SEGMENTWIDTH.try_from.Reads as segment-try-from-reads
use Rattle.travel.proofs.segment.Segment.within.Kinds as within-kinds
use Rattle.travel.proofs.segment.Segment.within.Reads as within-reads
use Rattle.travel.proofs.segment.Segment.placed.Kinds as placed-kinds
use Rattle.travel.proofs.segment.Segment.placed.Reads as placed-reads
use Rattle.travel.proofs.segment.Segment.time.Kinds as time-kinds
use Rattle.travel.proofs.segment.Segment.time.Reads as time-reads
use Rattle.travel.proofs.rule.SheetRuleTryFromU64.try_from.Kinds as rule-try-from-kinds
use Rattle.travel.proofs.rule.SheetRuleTryFromU64.try_from.Reads as rule-try-from-reads
use Rattle.travel.proofs.rule.SheetRule.limit.Kinds as limit-kinds
use Rattle.travel.proofs.rule.SheetRule.limit.Reads as limit-reads

-- one time for a segment
pub segment_time_one : OneAnswer segment-time-kinds.ps segment-time-kinds.r segment-time-reads.Post
segment_time_one κs a x y s t p q = same p q

-- one verdict on a sheet rule, and one limit
pub rule_good_one : OneAnswer rule-good-kinds.ps rule-good-kinds.r rule-good-reads.Post
rule_good_one κs a x y s t p q = same p q

pub sheet_limit_one : OneAnswer sheet-limit-kinds.ps sheet-limit-kinds.r sheet-limit-reads.Post
sheet_limit_one κs a x y s t p q = same p q

-- one verdict on a list
pub segments_good_one : OneAnswer segments-good-kinds.ps segments-good-kinds.r segments-good-reads.Post
segments_good_one κs a x y s t p q = same p q

-- one time of concentration for a list
pub concentration_one : OneAnswer concentration-kinds.ps concentration-kinds.r concentration-reads.Post
concentration_one κs a x y s t p q = same p q

-- one time to peak
pub time_to_peak_one : OneAnswer time-to-peak-kinds.ps time-to-peak-kinds.r time-to-peak-reads.Post
time_to_peak_one κs a x y s t p q = same p q

-- one reading of five numbers
pub segment_try_from_one : OneAnswer segment-try-from-kinds.ps segment-try-from-kinds.r segment-try-from-reads.Post
segment_try_from_one κs a x y s t p q = same p q

-- one verdict on a segment
pub within_one : OneAnswer within-kinds.ps within-kinds.r within-reads.Post
within_one κs a x y s t p q = same p q

-- and on its place
pub placed_one : OneAnswer placed-kinds.ps placed-kinds.r placed-reads.Post
placed_one κs a x y s t p q = same p q

-- one time of a segment
pub time_one : OneAnswer time-kinds.ps time-kinds.r time-reads.Post
time_one κs a x y s t p q = same p q

-- one reading of a rule
pub rule_try_from_one : OneAnswer rule-try-from-kinds.ps rule-try-from-kinds.r rule-try-from-reads.Post
rule_try_from_one κs a x y s t p q = same p q

-- one limit of a rule
pub limit_one : OneAnswer limit-kinds.ps limit-kinds.r limit-reads.Post
limit_one κs a x y s t p q = same p q
