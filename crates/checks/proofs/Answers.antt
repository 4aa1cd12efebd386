-- Each promise of this crate allows one answer. Assumes nothing.
use mathlib.Core.Path.{ap}
use mathlib.Core.List.{List}
use Prim.Native.Nat.{ℕ}
use Rattle.std.specs.Prelude.{Result, Ok, Err}
use Rattle.laws.proofs.OneAnswer.{OneAnswer, OneReading, same}
use Rattle.pond.specs.declared.Pond.{Pond}
use Rattle.refusals.specs.declared.Rule.{Rule}
use Rattle.refusals.specs.declared.Refusal.{Refusal}
use Rattle.refusals.specs.Refusals.{Line}
use Rattle.refusals.proofs.Orders.{refused}
use Rattle.checks.proofs.pond_check.Kinds as pond-check-kinds
use Rattle.checks.proofs.pond_check.Reads as pond-check-reads
use Rattle.checks.proofs.last_check.Kinds as last-check-kinds
use Rattle.checks.proofs.last_check.Reads as last-check-reads
use Rattle.checks.proofs.frame_checks.Kinds as frame-checks-kinds
use Rattle.checks.proofs.frame_checks.Reads as frame-checks-reads
use Rattle.checks.proofs.run_checks.Kinds as run-checks-kinds
use Rattle.checks.proofs.run_checks.Reads as run-checks-reads
use Rattle.checks.proofs.pond_checks.Kinds as pond-checks-kinds
use Rattle.checks.proofs.pond_checks.Reads as pond-checks-reads
use Rattle.checks.proofs.forged_check.Kinds as forged-check-kinds
use Rattle.checks.proofs.forged_check.Reads as forged-check-reads
use Rattle.checks.proofs.inflow_checks.Kinds as inflow-checks-kinds
use Rattle.checks.proofs.inflow_checks.Reads as inflow-checks-reads
use Rattle.checks.proofs.study_checks.Kinds as study-checks-kinds
use Rattle.checks.proofs.study_checks.Reads as study-checks-reads
use Rattle.checks.proofs.record.limits.Kinds as limits-kinds
use Rattle.checks.proofs.record.limits.Reads as limits-reads
use Rattle.checks.proofs.record.timing.Kinds as timing-kinds
use Rattle.checks.proofs.record.timing.Reads as timing-reads
use Rattle.checks.proofs.list.all_area.Kinds as all-area-kinds
use Rattle.checks.proofs.list.all_area.Reads as all-area-reads
use Rattle.checks.proofs.list.area_check.Kinds as area-check-kinds
use Rattle.checks.proofs.list.area_check.Reads as area-check-reads
use Rattle.checks.proofs.list.list_checks.Kinds as list-checks-kinds
use Rattle.checks.proofs.list.list_checks.Reads as list-checks-reads

pub last_check_one : OneAnswer last-check-kinds.ps last-check-kinds.r last-check-reads.Post
last_check_one κs a x y s t p q = same p q

pub frame_checks_one : OneAnswer frame-checks-kinds.ps frame-checks-kinds.r frame-checks-reads.Post
frame_checks_one κs a x y s t p q = same p q

pub run_checks_one : OneAnswer run-checks-kinds.ps run-checks-kinds.r run-checks-reads.Post
run_checks_one κs a x y s t p q = same p q

-- what a caller reads of a pond, and of an answer that holds one or refuses
abbrev numbers_of : Pond → List ℕ × ℕ
numbers_of v = (v.table.numbers.now, v.half)

abbrev told : Result Pond (Refusal Rule) → Result (List ℕ × ℕ) (Refusal Rule)
told (Ok v) = Ok (numbers_of v)
told (Err e) = Err e

-- the refusal of a line, or another where it has none
abbrev refusal_or : Refusal Rule → Line → Refusal Rule
refusal_or d (Ok u) = d
refusal_or d (Err e) = e

-- one pond that refusals 12 and 13 leave, or one refusal
pub pond_check_one : OneReading pond-check-kinds.ps pond-check-kinds.r {L = Result (List ℕ × ℕ) (Refusal Rule)} (λ κs v. told v) pond-check-reads.Post
pond_check_one κs a (Ok v) (Ok w) s t p q = λ i. Ok (same p.1.0 q.1.0 i, same p.1.1 q.1.1 i)
pond_check_one κs a (Ok v) (Err f) s t p q = absurd (refused (same q.0 p.0))
pond_check_one κs a (Err e) (Ok w) s t p q = absurd (refused (same p.0 q.0))
pond_check_one κs a (Err e) (Err f) s t p q = ap (λ v. Err (refusal_or e v)) (same p.0 q.0)

pub pond_checks_one : OneAnswer pond-checks-kinds.ps pond-checks-kinds.r pond-checks-reads.Post
pond_checks_one κs a x y s t p q = same p q

pub forged_check_one : OneAnswer forged-check-kinds.ps forged-check-kinds.r forged-check-reads.Post
forged_check_one κs a x y s t p q = same p q

pub inflow_checks_one : OneAnswer inflow-checks-kinds.ps inflow-checks-kinds.r inflow-checks-reads.Post
inflow_checks_one κs a x y s t p q = same p q

pub study_checks_one : OneAnswer study-checks-kinds.ps study-checks-kinds.r study-checks-reads.Post
study_checks_one κs a x y s t p q = same p q

pub limits_one : OneAnswer limits-kinds.ps limits-kinds.r limits-reads.Post
limits_one κs a x y s t p q = same p q

pub timing_one : OneAnswer timing-kinds.ps timing-kinds.r timing-reads.Post
timing_one κs a x y s t p q = same p q

pub all_area_one : OneAnswer all-area-kinds.ps all-area-kinds.r all-area-reads.Post
all_area_one κs a x y s t p q = same p q

pub area_check_one : OneAnswer area-check-kinds.ps area-check-kinds.r area-check-reads.Post
area_check_one κs a x y s t p q = same p q

pub list_checks_one : OneAnswer list-checks-kinds.ps list-checks-kinds.r list-checks-reads.Post
list_checks_one κs a x y s t p q = same p q
