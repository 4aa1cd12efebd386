-- Each promise of this crate allows one answer, and one later content of what it is lent. Assumes nothing.
use mathlib.Core.Path.{refl}
use mathlib.Core.List.{List}
use Prim.Native.Nat.{ℕ}
use Rattle.laws.proofs.OneAnswer.{OneAnswer, OneAnswerAnd, same}
use Rattle.sums.proofs.depths.less.Kinds as less-kinds
use Rattle.sums.proofs.depths.less.Reads as less-reads
use Rattle.sums.proofs.depths.depth_at.Kinds as depth-at-kinds
use Rattle.sums.proofs.depths.depth_at.Reads as depth-at-reads
use Rattle.sums.proofs.depths.fill_depths.Kinds as fill-depths-kinds
use Rattle.sums.proofs.depths.fill_depths.Reads as fill-depths-reads
use Rattle.sums.proofs.block_sums.Kinds as block-sums-kinds
use Rattle.sums.proofs.block_sums.Reads as block-sums-reads
use Rattle.sums.proofs.far_sums.Kinds as far-sums-kinds
use Rattle.sums.proofs.far_sums.Reads as far-sums-reads

pub less_one : OneAnswer less-kinds.ps less-kinds.r less-reads.Post
less_one κs a x y s t p q = same p q

pub depth_at_one : OneAnswer depth-at-kinds.ps depth-at-kinds.r depth-at-reads.Post
depth_at_one κs a x y s t p q = same p q

pub fill_depths_one : OneAnswerAnd fill-depths-kinds.ps fill-depths-kinds.r {L = List ℕ} (λ κs s. s.1.1.1.1.0.now) fill-depths-reads.Post
fill_depths_one κs a x y s t p q = (refl, same p q)

pub block_sums_one : OneAnswerAnd block-sums-kinds.ps block-sums-kinds.r {L = List ℕ} (λ κs s. s.1.1.1.1.0.now) block-sums-reads.Post
block_sums_one κs a x y s t p q = (refl, same p q)

pub far_sums_one : OneAnswerAnd far-sums-kinds.ps far-sums-kinds.r {L = List ℕ} (λ κs s. s.1.1.1.1.0.now) far-sums-reads.Post
far_sums_one κs a x y s t p q = (refl, same p q)
