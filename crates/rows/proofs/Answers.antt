-- Each promise of this crate allows one answer, and one later content of what it is lent. Assumes nothing.
use mathlib.Core.Path.{sym, ◌∙◌}
use mathlib.Core.List.{List}
use Prim.Native.Nat.{ℕ}
use Rattle.laws.proofs.OneAnswer.{OneAnswer, OneReading, OneAnswerAnd, same}
use Rattle.pond.specs.declared.State.{State}
use Rattle.pond.specs.declared.Pond.{Pond}
use Rattle.rows.proofs.Level.new.Kinds as level-new-kinds
use Rattle.rows.proofs.Level.new.Reads as level-new-reads
use Rattle.rows.specs.Figures.{figures_of}
use Rattle.rows.proofs.dry_run.Kinds as dry-run-kinds
use Rattle.rows.proofs.dry_run.Reads as dry-run-reads
use Rattle.rows.proofs.tide_after.Kinds as tide-after-kinds
use Rattle.rows.proofs.tide_after.Reads as tide-after-reads
use Rattle.rows.proofs.sum_of.Kinds as sum-of-kinds
use Rattle.rows.proofs.sum_of.Reads as sum-of-reads
use Rattle.rows.proofs.state_before.Kinds as state-before-kinds
use Rattle.rows.proofs.state_before.Reads as state-before-reads
use Rattle.rows.proofs.write_from.Kinds as write-from-kinds
use Rattle.rows.proofs.write_from.Reads as write-from-reads
use Rattle.rows.proofs.first_forged.Kinds as first-forged-kinds
use Rattle.rows.proofs.first_forged.Reads as first-forged-reads
use Rattle.rows.proofs.figures_of.Kinds as figures-of-kinds
use Rattle.rows.proofs.figures_of.Reads as figures-of-reads

-- one level of a pond and a state
pub level_new_one : OneReading level-new-kinds.ps level-new-kinds.r {L = Pond × State} (λ κs v. (v.pond, v.state)) level-new-reads.Post
level_new_one κs a x y s t p q = λ i. (same p.0 q.0 i, same p.1 q.1 i)

pub dry_run_one : OneAnswer dry-run-kinds.ps dry-run-kinds.r dry-run-reads.Post
dry_run_one κs a x y s t p q = same p q

pub state_before_one : OneAnswer state-before-kinds.ps state-before-kinds.r state-before-reads.Post
state_before_one κs a x y s t p q = same p q

pub first_forged_one : OneAnswer first-forged-kinds.ps first-forged-kinds.r first-forged-reads.Post
first_forged_one κs a x y s t p q = same p.0 q.0

pub figures_of_one : OneAnswer figures-of-kinds.ps figures-of-kinds.r figures-of-reads.Post
figures_of_one κs a x y s t p q = same p q

pub tide_after_one : OneAnswer tide-after-kinds.ps tide-after-kinds.r tide-after-reads.Post
tide_after_one κs a x y s t p q = same p q

pub sum_of_one : OneAnswer sum-of-kinds.ps sum-of-kinds.r sum-of-reads.Post
sum_of_one κs a x y s t p q = same p q

pub write_from_one : OneAnswerAnd write-from-kinds.ps write-from-kinds.r {L = List ℕ × List ℕ} (λ κs s. (s.1.1.0.now, s.1.1.1.0.now)) write-from-reads.Post
write_from_one κs a x y s t p q =
    let outs = same p.1.0 q.1.0 in
    let helds = same p.1.1 q.1.1 in
    (p.0 ∙ (λ i. figures_of a.0.now.half a.0.now.table.numbers.now a.1.0.now (outs i) (helds i)) ∙ sym q.0, λ i. (outs i, helds i))
