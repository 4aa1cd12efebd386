-- Each promise of this crate allows one answer, and one later content of what it is lent. Assumes nothing.
use Rattle.checks.specs.Site.{Rows, rows_now}
use Rattle.laws.proofs.OneAnswer.{OneAnswerAnd, same}
use Rattle.edit.proofs.run.Kinds as run-kinds
use Rattle.edit.proofs.run.Reads as run-reads

pub run_one : OneAnswerAnd run-kinds.ps run-kinds.r {L = Rows} (λ κs s. rows_now s.1.1.1.1.0.now s.1.1.1.1.1.0.now s.1.1.1.1.1.1.0.now) run-reads.Post
run_one κs a x y s t p q = (same p.0 q.0, same p.1.0 q.1.0)
