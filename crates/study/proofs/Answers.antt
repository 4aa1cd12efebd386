-- Each promise of this crate allows one answer, and one later content of what it is lent. Assumes nothing.
use Rattle.laws.proofs.OneAnswer.{OneAnswer, OneAnswerAnd, same}
use Rattle.checks.specs.Site.{Rows, rows_now}
use Rattle.study.proofs.all_classes.Kinds as all-classes-kinds
use Rattle.study.proofs.all_classes.Reads as all-classes-reads
use Rattle.study.proofs.figures_with.Kinds as figures-with-kinds
use Rattle.study.proofs.figures_with.Reads as figures-with-reads
use Rattle.study.proofs.run.Kinds as run-kinds
use Rattle.study.proofs.run.Reads as run-reads

pub all_classes_one : OneAnswer all-classes-kinds.ps all-classes-kinds.r all-classes-reads.Post
all_classes_one κs a x y s t p q = same p q

pub figures_with_one : OneAnswer figures-with-kinds.ps figures-with-kinds.r figures-with-reads.Post
figures_with_one κs a x y s t p q = same p q

pub run_one : OneAnswerAnd run-kinds.ps run-kinds.r {L = Rows} (λ κs s. rows_now s.1.1.1.1.0.now s.1.1.1.1.1.0.now s.1.1.1.1.1.1.0.now) run-reads.Post
run_one κs a x y s t p q = (same p.0 q.0, same p.1.0 q.1.0)
