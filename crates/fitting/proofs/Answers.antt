-- Each promise of this crate allows one answer. Assumes nothing.
use Rattle.laws.proofs.OneAnswer.{OneAnswer, same}
use Rattle.fitting.proofs.fit_rows.Kinds as fit-rows-kinds
use Rattle.fitting.proofs.fit_rows.Reads as fit-rows-reads
use Rattle.fitting.proofs.over.over_from.Kinds as over-from-kinds
use Rattle.fitting.proofs.over.over_from.Reads as over-from-reads

pub fit_rows_one : OneAnswer fit-rows-kinds.ps fit-rows-kinds.r fit-rows-reads.Post
fit_rows_one κs a x y s t p q = same p q

pub over_from_one : OneAnswer over-from-kinds.ps over-from-kinds.r over-from-reads.Post
over_from_one κs a x y s t p q = same p.0 q.0
