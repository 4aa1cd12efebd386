-- Each promise of this crate allows one answer. Assumes nothing.
use Rattle.laws.proofs.OneAnswer.{OneAnswer, same}
use Rattle.runoff.proofs.depth.Kinds as depth-kinds
use Rattle.runoff.proofs.depth.Reads as depth-reads

pub depth_one : OneAnswer depth-kinds.ps depth-kinds.r depth-reads.Post
depth_one κs a x y s t p q = same p q
