-- The promise of this crate allows one answer, and one later content of what it is lent. Assumes nothing.
use Rattle.laws.proofs.OneAnswer.{OneAnswerAnd, same}
use Rattle.checks.specs.Site.{Rows, rows_now}
use Rattle.rewrite.proofs.finish.Kinds as finish-kinds
use Rattle.rewrite.proofs.finish.Reads as finish-reads

pub finish_one : OneAnswerAnd finish-kinds.ps finish-kinds.r {L = Rows} (λ κs s. rows_now s.1.1.1.1.1.0.now s.1.1.1.1.1.1.0.now s.1.1.1.1.1.1.1.0.now) finish-reads.Post
finish_one κs a x y s t p q = (same p.0 q.0, same p.1 q.1)
