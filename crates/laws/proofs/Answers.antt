-- Each promise of this crate allows one answer, and one later content of what it is lent. Assumes nothing.
use mathlib.Core.Path.{refl}
use mathlib.Core.List.{List}
use Prim.Native.Nat.{ℕ}
use Rattle.laws.proofs.OneAnswer.{OneAnswer, OneAnswerAnd, same}
use Rattle.laws.proofs.clear.Kinds as clear-kinds
use Rattle.laws.proofs.clear.Reads as clear_reads
use Rattle.laws.proofs.both.Kinds as both-kinds
use Rattle.laws.proofs.both.Reads as both-reads
use Rattle.laws.proofs.within.Kinds as within-kinds
use Rattle.laws.proofs.within.Reads as within-reads
use Rattle.laws.proofs.least.Kinds as least-kinds
use Rattle.laws.proofs.least.Reads as least-reads
use Rattle.laws.proofs.wide.Kinds as wide-kinds
use Rattle.laws.proofs.wide.Reads as wide-reads

pub both_one : OneAnswer both-kinds.ps both-kinds.r both-reads.Post
both_one κs a x y s t p q = same p q

pub within_one : OneAnswer within-kinds.ps within-kinds.r within-reads.Post
within_one κs a x y s t p q = same p q

pub least_one : OneAnswer least-kinds.ps least-kinds.r least-reads.Post
least_one κs a x y s t p q = same p q

pub wide_one : OneAnswer wide-kinds.ps wide-kinds.r wide-reads.Post
wide_one κs a x y s t p q = same p q

pub clear_one : OneAnswerAnd clear-kinds.ps clear-kinds.r {L = List ℕ} (λ κs s. s.0.now) clear_reads.Post
clear_one κs a x y s t p q = (refl, same p q)
