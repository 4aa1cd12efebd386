-- Each promise of this crate allows one answer, and one later content of what it is lent. Assumes nothing.
use mathlib.Core.Path.{refl}
use mathlib.Core.List.{List}
use Prim.Native.Nat.{ℕ}
use Rattle.laws.proofs.OneAnswer.{OneAnswer, OneAnswerAnd, same}
use Rattle.inflow.proofs.numbers_with.Kinds as numbers-with-kinds
use Rattle.inflow.proofs.numbers_with.Reads as numbers-with-reads
use Rattle.inflow.proofs.numbers.Kinds as numbers-kinds
use Rattle.inflow.proofs.numbers.Reads as numbers-reads
use Rattle.inflow.proofs.most_volume.Kinds as most-volume-kinds
use Rattle.inflow.proofs.most_volume.Reads as most-volume-reads
use Rattle.inflow.proofs.add_record.Kinds as add-record-kinds
use Rattle.inflow.proofs.add_record.Reads as add-record-reads
use Rattle.inflow.proofs.fill.Kinds as fill-kinds
use Rattle.inflow.proofs.fill.Reads as fill-reads
use Rattle.inflow.proofs.run.Kinds as run-kinds
use Rattle.inflow.proofs.run.Reads as run-reads

pub numbers_with_one : OneAnswer numbers-with-kinds.ps numbers-with-kinds.r numbers-with-reads.Post
numbers_with_one κs a x y s t p q = same p q

pub numbers_one : OneAnswer numbers-kinds.ps numbers-kinds.r numbers-reads.Post
numbers_one κs a x y s t p q = same p q

pub most_volume_one : OneAnswer most-volume-kinds.ps most-volume-kinds.r most-volume-reads.Post
most_volume_one κs a x y s t p q = same p q

pub add_record_one : OneAnswerAnd add-record-kinds.ps add-record-kinds.r {L = List ℕ} (λ κs s. s.1.1.1.0.now) add-record-reads.Post
add_record_one κs a x y s t p q = (refl, same p q)

pub fill_one : OneAnswerAnd fill-kinds.ps fill-kinds.r {L = List ℕ} (λ κs s. s.1.1.1.0.now) fill-reads.Post
fill_one κs a x y s t p q = (refl, same p q)

pub run_one : OneAnswerAnd run-kinds.ps run-kinds.r {L = List ℕ} (λ κs s. s.1.1.1.0.now) run-reads.Post
run_one κs a x y s t p q = (same p.0 q.0, same p.1 q.1)
