-- Demand 3 at the functions that a host calls, over their promises: what a call of `bt_edit` returns, writes and leaves beside a call of
-- `bt_study` on the altered list, and the same of the calls over records. Assumes nothing.
use mathlib.Core.Path.{◌≡◌, sym, ap, ◌∙◌, subst}
use mathlib.Core.List.{List}
use Prim.Native.Nat.{ℕ, ◌≤◌}
use lib.ListN.{length, take}
use seplogic.Ra.Ura.{Ura}
use base.Logic.{SProp, ent, sep}
use prog.Memory.{Memory}
use prog.Routine.{Routine}
use types.Logic.{Logic}
use contract.Lifetimes.{Lfts}
use contract.Monad.{Fun, fact}
use denote.Triple.Entry.{Args}
use denote.Triple.Clauses.{AtExit}
use borrow.Fn.Kinds.{Dens, ended_of}
use Rattle.refusals.specs.Refusals.{told}
use Rattle.subarea.specs.declared.Setup.{Setup}
use Rattle.subarea.specs.Records.{width, records_in}
use Rattle.checks.specs.Site.{Site, Rows, site_now, rows_now}
use Rattle.study.specs.Study.{study_answer, study_rows, study_refusal_in}
use Rattle.alter.specs.Altering.{altered_site}
use Rattle.edit.specs.Edit.{edit_answer, edit_rows, edit_refusal_in}
use Rattle.edit.specs.Standing.{Standing}
use Rattle.answers.specs.Setups.{setup_of}
use Rattle.answers.specs.StudyNumbers.{study_numbers_of}
use Rattle.answers.specs.EditNumbers.{edit_numbers_of}
use Rattle.host.specs.declared.records.Subarea.{Subarea}
use Rattle.host.specs.Flattened.{record_of, put_in}
use Rattle.host.specs.HostEdits.{SameToHost, EditBesideStudy, records_site}
use Rattle.host.proofs.OneSaid.{follows}
use Rattle.host.proofs.Answers.{study_left, edit_left}
use Rattle.host.proofs.RecordAnswers.{studied, edited, StudySays, EditSays, study_said, edit_said}
use Rattle.host.proofs.HostEdits.{host_edit_is_study, records_edit_is_study}
use Rattle.host.proofs.bt_study.Kinds as bt-study-kinds
use Rattle.host.proofs.bt_study.Reads as bt-study-reads
use Rattle.host.proofs.bt_edit.Kinds as bt-edit-kinds
use Rattle.host.proofs.bt_edit.Reads as bt-edit-reads
use Rattle.host.specs.contracts.records.bt_study_records as bt-study-records
use Rattle.host.specs.contracts.records.bt_edit_records as bt-edit-records

-- what an edit's promise and a study's say of what they return, write and leave, put together; the study is lent site z and rows m
module _ (x : Site) (l : Rows) (k : ℕ) (r : List ℕ) {y z : Site} {m : Rows} {number number' : ℕ} {numbers numbers' : List ℕ} {rows rows' : Rows} where
  beside : EditBesideStudy x l k r y → z ≡ y → m ≡ l
      → number ≡ (told (edit_refusal_in (edit_answer x l k r))).0 → numbers ≡ edit_numbers_of (edit_answer x l k r) → rows ≡ edit_rows x l k r
      → number' ≡ (told (study_refusal_in (study_answer z m))).0 → numbers' ≡ study_numbers_of (study_answer z m) → rows' ≡ study_rows z m
      → SameToHost number numbers rows number' numbers' rows'
  beside same site lent a b c a' b' c' =
      record {
        returned = a ∙ same.returned ∙ sym (a' ∙ (λ i. (told (study_refusal_in (study_answer (site i) (lent i)))).0));
        first_twelve = ap (take 12) b ∙ same.first_twelve ∙ sym (b' ∙ (λ i. study_numbers_of (study_answer (site i) (lent i))));
        left = c ∙ same.left ∙ sym (c' ∙ (λ i. study_rows (site i) (lent i)));
      }

-- what a call of `bt_study` is lent
abbrev study_site : (κs : Lfts 7) → Dens κs bt-study-kinds.ps → Site
study_site κs (step, (first, (rule, (rain, (subareas, (pond, _)))))) = site_now (setup_of step first rule) rain.now subareas.now pond.now

abbrev study_lent : (κs : Lfts 7) → Dens κs bt-study-kinds.ps → Rows
study_lent κs (step, (first, (rule, (rain, (subareas, (pond, (inflow, (outflow, (storage, _))))))))) = rows_now inflow.now outflow.now storage.now

-- the same of `bt_edit`
pub record EditCall : Type 0 where
  pub site : Site
  pub rows : Rows
  pub place : ℕ
  pub fresh : List ℕ

abbrev edit_call : (κs : Lfts 9) → Dens κs bt-edit-kinds.ps → EditCall
edit_call κs (step, (first, (rule, (rain, (subareas, (pond, (inflow, (outflow, (storage, (place, (fresh, _))))))))))) =
    record { site = site_now (setup_of step first rule) rain.now subareas.now pond.now; rows = rows_now inflow.now outflow.now storage.now; place = place; fresh = fresh.now }

-- an edit of rows that stand, at a listed place and with a whole record; and a study that is lent the altered site and the same rows
pub record EditAndStudy (e : EditCall) (site : Site) (rows : Rows) : Type 0 where
  pub stand : Standing e.site e.rows
  pub listed : 1 ≤ e.place
  pub last : e.place ≤ records_in e.site.subareas
  pub whole : length e.fresh ≡ width
  pub altered : site ≡ altered_site e.site e.place e.fresh
  pub lent : rows ≡ e.rows

pub bt_edit_is_bt_study : (κs : Lfts 9) (a : Dens κs bt-edit-kinds.ps) (λs : Lfts 7) (b : Dens λs bt-study-kinds.ps) → EditAndStudy (edit_call κs a) (study_site λs b) (study_lent λs b)
    → (x y : ℕ) (s : AtExit (ended_of 9 bt-edit-kinds.ps bt-edit-kinds.r) κs) (t : AtExit (ended_of 7 bt-study-kinds.ps bt-study-kinds.r) λs)
    → bt-edit-reads.Post κs a x s → bt-study-reads.Post λs b y t
    → SameToHost x (edit_left κs s).1.0 (edit_left κs s).0 y (study_left λs t).1 (study_left λs t).0
bt_edit_is_bt_study κs a λs b ok x y s t p q =
    let e = edit_call κs a in
    beside e.site e.rows e.place e.fresh (host_edit_is_study ok.stand e.place ok.listed ok.last e.fresh ok.whole) ok.altered ok.lent
    p.0 p.1.0 p.1.1.1 q.0 q.1.0 q.1.1

-- over records
abbrev records_studied : (κs : Lfts (bt-study-records.signature).lifetimes) → Args bt-study-records.signature κs → Site
records_studied κs (step, (first, (rule, (rain, (list, (pond, _)))))) = records_site (setup_of step first rule) rain.now list.now pond.now

abbrev records_lent : (κs : Lfts (bt-study-records.signature).lifetimes) → Args bt-study-records.signature κs → Rows
records_lent κs (step, (first, (rule, (rain, (list, (pond, (inflow, (outflow, (storage, _))))))))) = rows_now inflow.now outflow.now storage.now

pub record RecordsCall : Type 0 where
  pub setup : Setup
  pub rain : List ℕ
  pub list : List Subarea
  pub pond : List ℕ
  pub rows : Rows
  pub place : ℕ
  pub fresh : List ℕ

abbrev records_call : (κs : Lfts (bt-edit-records.signature).lifetimes) → Args bt-edit-records.signature κs → RecordsCall
records_call κs (step, (first, (rule, (rain, (list, (pond, (inflow, (outflow, (storage, (place, (fresh, _))))))))))) =
    record { setup = setup_of step first rule; rain = rain.now; list = list.now; pond = pond.now; rows = rows_now inflow.now outflow.now storage.now; place = place; fresh = fresh.now }

-- an edit of rows that stand, at a listed place and with the numbers of record n; and a study that is lent the list with n in that place and the same rows
pub record RecordsEditAndStudy (e : RecordsCall) (n : Subarea) (site : Site) (rows : Rows) : Type 0 where
  pub stand : Standing (records_site e.setup e.rain e.list e.pond) e.rows
  pub listed : 1 ≤ e.place
  pub last : e.place ≤ length e.list
  pub fresh : e.fresh ≡ record_of n
  pub put : site ≡ records_site e.setup e.rain (put_in e.list e.place n) e.pond
  pub lent : rows ≡ e.rows

module _ {M : Type 1} {𝓤 : Ura M} (𝓛 : Logic 𝓤) (mem : Memory → SProp 𝓤) (run : Routine → Fun 𝓤) where
  pub bt_edit_records_is_bt_study_records : (κs : Lfts (bt-edit-records.signature).lifetimes) (a : Args bt-edit-records.signature κs) (λs : Lfts (bt-study-records.signature).lifetimes) (b : Args bt-study-records.signature λs)
      → (n : Subarea) → RecordsEditAndStudy (records_call κs a) n (records_studied λs b) (records_lent λs b)
      → (x y : ℕ) (s : AtExit bt-edit-records.ended κs) (t : AtExit bt-study-records.ended λs)
      → ent 𝓤 (sep 𝓤 ((bt-edit-records.clauses 𝓛 mem run κs a).ensures tt x s) ((bt-study-records.clauses 𝓛 mem run λs b).ensures tt y t))
      (fact 𝓤 (SameToHost x (edited κs s).1.0 (edited κs s).0 y (studied λs t).1 (studied λs t).0))
  bt_edit_records_is_bt_study_records κs a λs b n ok x y s t =
      let e = records_call κs a in
      let here = records_site e.setup e.rain e.list e.pond in
      let there = records_site e.setup e.rain (put_in e.list e.place n) e.pond in
      let same : EditBesideStudy here e.rows e.place e.fresh there =
      subst (λ (r : List ℕ). EditBesideStudy here e.rows e.place r there) (sym ok.fresh) (records_edit_is_study e.setup e.rain e.list e.pond e.rows ok.stand e.place ok.listed ok.last n) in
      follows 𝓤 (EditSays κs a x s) (StudySays λs b y t) _ (edit_said 𝓛 mem run κs a x s) (study_said 𝓛 mem run λs b y t)
      (λ p q. beside here e.rows e.place e.fresh same ok.put ok.lent p.0 p.1.0 p.1.1.1 q.0 q.1.0 q.1.1)
