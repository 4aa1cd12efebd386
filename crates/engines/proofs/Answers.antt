-- Each promise of this crate allows one answer, and one later content of what it is lent. Assumes nothing.
use denote.RattleType.{RattleType}
use denote.Param.Laws.{Laws}
use mir.Syntax.{Dict}
use mathlib.Core.List.{List}
use Prim.Native.Nat.{ℕ}
use Rattle.laws.proofs.OneAnswer.{OneAnswer, OneAnswerAnd, same}
use Rattle.refusals.specs.declared.Numbered.{Ghosts as Numbered}
use Rattle.engines.proofs.first_differing.Kinds as first-differing-kinds
use Rattle.engines.proofs.first_differing.Reads as first-differing-reads
use Rattle.engines.proofs.compare.Kinds as compare-kinds
use Rattle.engines.proofs.compare.Reads as compare-reads
use Rattle.engines.proofs.agree.Kinds as agree-kinds
use Rattle.engines.proofs.agree.Reads as agree-reads

pub first_differing_one : OneAnswer first-differing-kinds.ps first-differing-kinds.r first-differing-reads.Post
first_differing_one κs a x y s t p q = same p q

pub agree_one : (R : RattleType) (d : Laws R) (g : Numbered R.Denot) (w : Dict) → OneAnswer (agree-kinds.ps R d) (agree-kinds.r R d) (agree-reads.Post R d g w)
agree_one R d g w κs a x y s t p q = same p q

pub compare_one : OneAnswerAnd compare-kinds.ps compare-kinds.r {L = List ℕ × List ℕ} (λ κs s. (s.1.1.1.0.now, s.1.1.1.1.0.now)) compare-reads.Post
compare_one κs a x y s t p q = (same p.0 q.0, let u = same p.1.0 q.1.0 in let v = same p.1.1 q.1.1 in rw (u, v))
