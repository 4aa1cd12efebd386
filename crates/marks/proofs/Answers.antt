-- Each promise of this crate allows one answer. Assumes nothing.
use Rattle.laws.proofs.OneAnswer.{OneAnswer, same}
use Rattle.marks.proofs.mark_row.Kinds as mark-row-kinds
use Rattle.marks.proofs.mark_row.Reads as mark-row-reads

pub mark_row_one : OneAnswer mark-row-kinds.ps mark-row-kinds.r mark-row-reads.Post
mark_row_one κs a x y s t p q = same p.0 q.0
