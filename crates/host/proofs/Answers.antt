-- Each promise of this crate allows one answer, and one later content of what it is lent. Assumes nothing.
use mathlib.Core.List.{List}
use Prim.Native.Nat.{ℕ}
use contract.Lifetimes.{Lfts}
use denote.Triple.Clauses.{AtExit}
use borrow.Fn.Kinds.{ended_of}
use lib.IntN.{ℤ}
use lib.Ieee.{Float}
use Rattle.laws.proofs.OneAnswer.{OneAnswer, OneAnswerAnd, same}
use Rattle.checks.specs.Site.{Rows, rows_now}
use Rattle.host.proofs.bt_interface.Kinds as bt-interface-kinds
use Rattle.host.proofs.bt_interface.Reads as bt-interface-reads
use Rattle.host.proofs.bt_study.Kinds as bt-study-kinds
use Rattle.host.proofs.bt_study.Reads as bt-study-reads
use Rattle.host.proofs.bt_edit.Kinds as bt-edit-kinds
use Rattle.host.proofs.bt_edit.Reads as bt-edit-reads
use Rattle.host.proofs.bt_mark.Kinds as bt-mark-kinds
use Rattle.host.proofs.bt_mark.Reads as bt-mark-reads
use Rattle.host.proofs.bt_inflow.Kinds as bt-inflow-kinds
use Rattle.host.proofs.bt_inflow.Reads as bt-inflow-reads
use Rattle.host.proofs.bt_textbook.Kinds as bt-textbook-kinds
use Rattle.host.proofs.bt_textbook.Reads as bt-textbook-reads

pub bt_interface_one : OneAnswer bt-interface-kinds.ps bt-interface-kinds.r bt-interface-reads.Post
bt_interface_one κs a x y s t p q = same p q

-- what a call of `bt_study` leaves in the rows and in its array
abbrev pub study_left : (κs : Lfts 7) → AtExit (ended_of 7 bt-study-kinds.ps bt-study-kinds.r) κs → Rows × List ℕ
study_left κs (step, (first, (rule, (rain, (subareas, (pond, (inflow, (outflow, (storage, (answer, _)))))))))) = (rows_now inflow.now outflow.now storage.now, answer.now)

pub bt_study_one : OneAnswerAnd bt-study-kinds.ps bt-study-kinds.r study_left bt-study-reads.Post
bt_study_one κs a x y s t p q = (same p.0 q.0, λ i. (same p.1.1 q.1.1 i, same p.1.0 q.1.0 i))

-- the same of `bt_edit`, with its changes
abbrev pub edit_left : (κs : Lfts 9) → AtExit (ended_of 9 bt-edit-kinds.ps bt-edit-kinds.r) κs → Rows × (List ℕ × List ℤ)
edit_left κs (step, (first, (rule, (rain, (subareas, (pond, (inflow, (outflow, (storage, (place, (fresh, (answer, (changes, _))))))))))))) =
    (rows_now inflow.now outflow.now storage.now, (answer.now, changes.now))

pub bt_edit_one : OneAnswerAnd bt-edit-kinds.ps bt-edit-kinds.r edit_left bt-edit-reads.Post
bt_edit_one κs a x y s t p q = (same p.0 q.0, λ i. (same p.1.1.1 q.1.1.1 i, (same p.1.0 q.1.0 i, same p.1.1.0 q.1.1.0 i)))

pub bt_mark_one : OneAnswerAnd bt-mark-kinds.ps bt-mark-kinds.r {L = List ℕ × List Float} (λ κs s. (s.1.1.1.1.1.1.1.0.now, s.1.1.1.1.1.1.1.1.0.now)) bt-mark-reads.Post
bt_mark_one κs a x y s t p q = (same p.0 q.0, λ i. (same p.1.0 q.1.0 i, same p.1.1 q.1.1 i))

-- what a call of `bt_inflow`, or of `bt_textbook`, leaves in the inflow list and in its array
abbrev pub inflow_left : (κs : Lfts 6) → AtExit (ended_of 6 bt-inflow-kinds.ps bt-inflow-kinds.r) κs → List ℕ × List ℕ
inflow_left κs (step, (first, (rule, (rain, (subareas, (inflow, (outflow, (storage, (answer, _))))))))) = (inflow.now, answer.now)

pub bt_inflow_one : OneAnswerAnd bt-inflow-kinds.ps bt-inflow-kinds.r inflow_left bt-inflow-reads.Post
bt_inflow_one κs a x y s t p q = (same p.0 q.0, λ i. (same p.1.1 q.1.1 i, same p.1.0 q.1.0 i))

pub bt_textbook_one : OneAnswerAnd bt-textbook-kinds.ps bt-textbook-kinds.r inflow_left bt-textbook-reads.Post
bt_textbook_one κs a x y s t p q = (same p.0 q.0, λ i. (same p.1.1 q.1.1 i, same p.1.0 q.1.0 i))
