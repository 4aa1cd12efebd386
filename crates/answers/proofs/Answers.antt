-- Each promise of this crate allows one answer, and one later content of what it is lent. Assumes nothing.
use denote.RattleType.{RattleType}
use denote.Param.Laws.{Laws}
use mir.Syntax.{Dict}
use mathlib.Core.List.{List}
use Prim.Native.Nat.{ℕ}
use lib.IntN.{ℤ}
use lib.Ieee.{Float}
use Rattle.laws.proofs.OneAnswer.{OneAnswerAnd, same}
use Rattle.refusals.specs.declared.Numbered.{Ghosts as Numbered}
use Rattle.answers.proofs.put_study.Kinds as put-study-kinds
use Rattle.answers.proofs.put_study.Reads as put-study-reads
use Rattle.answers.proofs.put_edit.Kinds as put-edit-kinds
use Rattle.answers.proofs.put_edit.Reads as put-edit-reads
use Rattle.answers.proofs.put_mark.Kinds as put-mark-kinds
use Rattle.answers.proofs.put_mark.Reads as put-mark-reads
use Rattle.answers.proofs.put_refusal.Kinds as put-refusal-kinds
use Rattle.answers.proofs.put_refusal.Reads as put-refusal-reads

pub put_study_one : (R : RattleType) (d : Laws R) (g : Numbered R.Denot) (w : Dict) → OneAnswerAnd (put-study-kinds.ps R d) (put-study-kinds.r R d) {L = List ℕ} (λ κs s. s.1.0.now) (put-study-reads.Post R d g w)
put_study_one R d g w κs a x y s t p q = (same p.0 q.0, same p.1 q.1)

pub put_edit_one : (R : RattleType) (d : Laws R) (g : Numbered R.Denot) (w : Dict) → OneAnswerAnd (put-edit-kinds.ps R d) (put-edit-kinds.r R d) {L = List ℕ × List ℤ} (λ κs s. (s.1.0.now, s.1.1.0.now)) (put-edit-reads.Post R d g w)
put_edit_one R d g w κs a x y s t p q = (same p.0 q.0, λ i. (same p.1.0 q.1.0 i, same p.1.1 q.1.1 i))

pub put_mark_one : (R : RattleType) (d : Laws R) (g : Numbered R.Denot) (w : Dict) → OneAnswerAnd (put-mark-kinds.ps R d) (put-mark-kinds.r R d) {L = List ℕ × List Float} (λ κs s. (s.1.0.now, s.1.1.0.now)) (put-mark-reads.Post R d g w)
put_mark_one R d g w κs a x y s t p q = (same p.0 q.0, λ i. (same p.1.0 q.1.0 i, same p.1.1 q.1.1 i))

pub put_refusal_one : (R : RattleType) (d : Laws R) (g : Numbered R.Denot) (w : Dict) → OneAnswerAnd (put-refusal-kinds.ps R d) (put-refusal-kinds.r R d) {L = List ℕ} (λ κs s. s.1.0.now) (put-refusal-reads.Post R d g w)
put_refusal_one R d g w κs a x y s t p q = (same p.0 q.0, same p.1 q.1)
