-- Each promise of an entry over records allows one answer, and one later content of what it is lent. Assumes nothing.
use mathlib.Core.List.{List}
use Prim.Native.Nat.{ℕ}
use lib.IntN.{ℤ}
use seplogic.Ra.Ura.{Ura}
use base.Logic.{SProp, ent, id⊢}
use prog.Memory.{Memory}
use prog.Routine.{Routine}
use types.Logic.{Logic}
use contract.Monad.{Fun, fact}
use denote.Triple.Entry.{Args}
use denote.Triple.Clauses.{AtExit}
use contract.Lifetimes.{Lfts}
use Rattle.laws.proofs.OneAnswer.{OneAnswerAnd, same}
use Rattle.checks.specs.Site.{Rows, rows_now}
use Rattle.host.specs.Flattened.{flat_of}
use Rattle.host.proofs.StudyPromise.{StudyIs}
use Rattle.host.proofs.EditPromise.{EditIs}
use Rattle.host.proofs.OneSaid.{OneSaid, also, follows}
use Rattle.host.specs.contracts.records.bt_study_records as bt-study-records
use Rattle.host.specs.contracts.records.bt_edit_records as bt-edit-records
use Rattle.host.proofs.records.bt_study_records.Kinds as bt-study-records-kinds
use Rattle.host.proofs.records.bt_study_records.Reads as bt-study-records-reads
use Rattle.host.proofs.records.bt_edit_records.Kinds as bt-edit-records-kinds
use Rattle.host.proofs.records.bt_edit_records.Reads as bt-edit-records-reads

-- what a study leaves in what it is lent, and what it says of that
abbrev pub studied : (κs : Lfts (bt-study-records.signature).lifetimes) → AtExit bt-study-records.ended κs → Rows × List ℕ
studied κs (step, (first, (rule, (rain, (list, (pond, (inflow, (outflow, (storage, (answer, _)))))))))) = (rows_now inflow.now outflow.now storage.now, answer.now)

abbrev pub StudySays : (κs : Lfts (bt-study-records.signature).lifetimes) → Args bt-study-records.signature κs → ℕ → AtExit bt-study-records.ended κs → Type 0
StudySays κs (step, (first, (rule, (rain, (list, (pond, (inflow, (outflow, (storage, _))))))))) r s =
    let z = studied κs s in
    StudyIs step first rule rain.now pond.now inflow.now outflow.now storage.now (flat_of list.now) r z.0.inflow z.0.outflow z.0.storage z.1

-- the same of an edit
abbrev pub edited : (κs : Lfts (bt-edit-records.signature).lifetimes) → AtExit bt-edit-records.ended κs → Rows × (List ℕ × List ℤ)
edited κs (step, (first, (rule, (rain, (list, (pond, (inflow, (outflow, (storage, (place, (fresh, (answer, (changes, _))))))))))))) =
    (rows_now inflow.now outflow.now storage.now, (answer.now, changes.now))

abbrev pub EditSays : (κs : Lfts (bt-edit-records.signature).lifetimes) → Args bt-edit-records.signature κs → ℕ → AtExit bt-edit-records.ended κs → Type 0
EditSays κs (step, (first, (rule, (rain, (list, (pond, (inflow, (outflow, (storage, (place, (fresh, _))))))))))) r s =
    let z = edited κs s in
    EditIs step first rule rain.now pond.now inflow.now outflow.now storage.now place fresh.now (flat_of list.now) r z.0.inflow z.0.outflow z.0.storage z.1.0 z.1.1

module _ {M : Type 1} {𝓤 : Ura M} (𝓛 : Logic 𝓤) (mem : Memory → SProp 𝓤) (run : Routine → Fun 𝓤) where
  pub study_said : (κs : Lfts (bt-study-records.signature).lifetimes) (a : Args bt-study-records.signature κs) (r : ℕ) (s : AtExit bt-study-records.ended κs)
      → ent 𝓤 ((bt-study-records.clauses 𝓛 mem run κs a).ensures tt r s) (fact 𝓤 (StudySays κs a r s))
  study_said κs a r s = also 𝓤 _ _ (also 𝓤 _ _ (id⊢ 𝓤 _))

  pub edit_said : (κs : Lfts (bt-edit-records.signature).lifetimes) (a : Args bt-edit-records.signature κs) (r : ℕ) (s : AtExit bt-edit-records.ended κs)
      → ent 𝓤 ((bt-edit-records.clauses 𝓛 mem run κs a).ensures tt r s) (fact 𝓤 (EditSays κs a r s))
  edit_said κs a r s = also 𝓤 _ _ (also 𝓤 _ _ (also 𝓤 _ _ (id⊢ 𝓤 _)))

pub bt_study_records_one : OneSaid bt-study-records.ended (λ M 𝓤 𝓛. bt-study-records.clauses 𝓛) studied
bt_study_records_one M 𝓤 𝓛 mem run κs a g x y s t =
    follows 𝓤 (StudySays κs a x s) (StudySays κs a y t) _ (study_said 𝓛 mem run κs a x s) (study_said 𝓛 mem run κs a y t)
    (λ p q. (same p.0 q.0, λ i. (same p.1.1 q.1.1 i, same p.1.0 q.1.0 i)))

pub bt_edit_records_one : OneSaid bt-edit-records.ended (λ M 𝓤 𝓛. bt-edit-records.clauses 𝓛) edited
bt_edit_records_one M 𝓤 𝓛 mem run κs a g x y s t =
    follows 𝓤 (EditSays κs a x s) (EditSays κs a y t) _ (edit_said 𝓛 mem run κs a x s) (edit_said 𝓛 mem run κs a y t)
    (λ p q. (same p.0 q.0, λ i. (same p.1.1.1 q.1.1.1 i, (same p.1.0 q.1.0 i, same p.1.1.0 q.1.1.0 i))))

-- the same over the checker's reading of each promise, as the laws of the other functions have it
pub bt_study_records_one_answer : OneAnswerAnd bt-study-records-kinds.ps bt-study-records-kinds.r studied bt-study-records-reads.Post
bt_study_records_one_answer κs a x y s t p q = (same p.0 q.0, λ i. (same p.1.1 q.1.1 i, same p.1.0 q.1.0 i))

pub bt_edit_records_one_answer : OneAnswerAnd bt-edit-records-kinds.ps bt-edit-records-kinds.r edited bt-edit-records-reads.Post
bt_edit_records_one_answer κs a x y s t p q = (same p.0 q.0, λ i. (same p.1.1.1 q.1.1.1 i, (same p.1.0 q.1.0 i, same p.1.1.0 q.1.1.0 i)))
