-- Each promise of this crate allows one answer. Assumes nothing.
use Rattle.laws.proofs.OneAnswer.{OneAnswer, same}
use Rattle.roots.proofs.square.root.Kinds as square-kinds
use Rattle.roots.proofs.square.root.Reads as square-reads
use Rattle.roots.proofs.power.root.Kinds as power-kinds
use Rattle.roots.proofs.power.root.Reads as power-reads

-- one square root
pub square_root_one : OneAnswer square-kinds.ps square-kinds.r square-reads.Post
square_root_one κs a x y s t p q = same p q

-- one root of a power
pub power_root_one : OneAnswer power-kinds.ps power-kinds.r power-reads.Post
power_root_one κs a x y s t p q = same p q
