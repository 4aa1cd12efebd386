-- Each promise of this crate allows one answer, and one later content of what it is lent. Assumes nothing.
use mathlib.Core.List.{List}
use Prim.Native.Nat.{ℕ}
use Rattle.laws.proofs.OneAnswer.{OneAnswer, OneAnswerAnd, same}
use Rattle.hydrograph.proofs.weight.Kinds as weight-kinds
use Rattle.hydrograph.proofs.weight.Reads as weight-reads
use Rattle.hydrograph.proofs.fill_weights.Kinds as fill-weights-kinds
use Rattle.hydrograph.proofs.fill_weights.Reads as fill-weights-reads
use Rattle.hydrograph.proofs.total_weight.Kinds as total-weight-kinds
use Rattle.hydrograph.proofs.total_weight.Reads as total-weight-reads
use Rattle.hydrograph.proofs.dot.Kinds as dot-kinds
use Rattle.hydrograph.proofs.dot.Reads as dot-reads
use Rattle.hydrograph.proofs.volume.Kinds as volume-kinds
use Rattle.hydrograph.proofs.volume.Reads as volume-reads
use Rattle.hydrograph.proofs.concentration_good.Kinds as concentration-good-kinds
use Rattle.hydrograph.proofs.concentration_good.Reads as concentration-good-reads
use Rattle.hydrograph.proofs.peak_good.Kinds as peak-good-kinds
use Rattle.hydrograph.proofs.peak_good.Reads as peak-good-reads
use Rattle.hydrograph.proofs.weights_good.Kinds as weights-good-kinds
use Rattle.hydrograph.proofs.weights_good.Reads as weights-good-reads

pub weight_one : OneAnswer weight-kinds.ps weight-kinds.r weight-reads.Post
weight_one κs a x y s t p q = same p q

pub fill_weights_one : OneAnswerAnd fill-weights-kinds.ps fill-weights-kinds.r {L = List ℕ} (λ κs s. s.1.1.1.1.1.0.now) fill-weights-reads.Post
fill_weights_one κs a x y s t p q = (same p.0 q.0, same p.1 q.1)

pub total_weight_one : OneAnswer total-weight-kinds.ps total-weight-kinds.r total-weight-reads.Post
total_weight_one κs a x y s t p q = same p q

pub dot_one : OneAnswer dot-kinds.ps dot-kinds.r dot-reads.Post
dot_one κs a x y s t p q = same p q

pub volume_one : OneAnswer volume-kinds.ps volume-kinds.r volume-reads.Post
volume_one κs a x y s t p q = same p q

pub concentration_good_one : OneAnswer concentration-good-kinds.ps concentration-good-kinds.r concentration-good-reads.Post
concentration_good_one κs a x y s t p q = same p q

pub peak_good_one : OneAnswer peak-good-kinds.ps peak-good-kinds.r peak-good-reads.Post
peak_good_one κs a x y s t p q = same p q

pub weights_good_one : OneAnswer weights-good-kinds.ps weights-good-kinds.r weights-good-reads.Post
weights_good_one κs a x y s t p q = same p q
