-- The promise of `run` allows one answer, and one later content of what it is lent. Assumes nothing.
use mathlib.Core.List.{List}
use Prim.Native.Nat.{ℕ}
use Rattle.laws.proofs.OneAnswer.{OneAnswerAnd, same}
use Rattle.textbook.proofs.run.Kinds as run-kinds
use Rattle.textbook.proofs.run.Reads as run-reads

pub run_one : OneAnswerAnd run-kinds.ps run-kinds.r {L = List ℕ} (λ κs s. s.1.1.1.0.now) run-reads.Post
run_one κs a x y s t p q = (same p.0 q.0, same p.1 q.1)
