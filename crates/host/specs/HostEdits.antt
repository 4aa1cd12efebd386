-- Demand 3 as a host has it, over what the promises of `bt_edit`, `bt_study` and those over records say: an edit beside a study of the altered list.
use Rattle.std.specs.Prelude.{◌≡◌, List, ℕ, take}
use Rattle.subarea.specs.declared.Setup.{Setup}
use Rattle.refusals.specs.Refusals.{told}
use Rattle.checks.specs.Site.{Site, Rows}
use Rattle.study.specs.Study.{study_answer, study_rows, study_refusal_in}
use Rattle.alter.specs.Altering.{altered_site}
use Rattle.edit.specs.Edit.{edit_answer, edit_rows, edit_refusal_in}
use Rattle.answers.specs.StudyNumbers.{study_numbers_of}
use Rattle.answers.specs.EditNumbers.{edit_numbers_of}
use Rattle.host.specs.declared.records.Subarea.{Subarea}
use Rattle.host.specs.Flattened.{record_of, flat_of, put_in}

-- an edit beside a study, refused or done: the number that each returns; the thirteen numbers that the edit writes, of which the first twelve are the study's; and the three row lists that each leaves
pub record SameToHost (number : ℕ) (numbers : List ℕ) (rows : Rows) (study_number : ℕ) (study_numbers : List ℕ) (study_rows : Rows) : Type 0 where
  pub returned : number ≡ study_number
  pub first_twelve : take 12 numbers ≡ study_numbers
  pub left : rows ≡ study_rows

-- an edit of site x with record r in place k, beside a study of site y, lent the same rows l
abbrev pub EditBesideStudy : Site → Rows → ℕ → List ℕ → Site → Type 0
EditBesideStudy x l k r y =
    let a = edit_answer x l k r in
    let b = study_answer y l in
    SameToHost (told (edit_refusal_in a)).0 (edit_numbers_of a) (edit_rows x l k r) (told (study_refusal_in b)).0 (study_numbers_of b) (study_rows y l)

-- a flat list: `bt_edit` beside `bt_study` of the altered list
abbrev pub HostEditIsStudy : Site → Rows → ℕ → List ℕ → Type 0
HostEditIsStudy x l k r = EditBesideStudy x l k r (altered_site x k r)

-- a site whose subareas are a list of records
abbrev pub records_site : Setup → List ℕ → List Subarea → List ℕ → Site
records_site g rain ss p = record { setup = g; rain = rain; subareas = flat_of ss; pond = p }

-- a list of records: `bt_edit_records`, lent record n as numbers, beside `bt_study_records` of the list with n in place k
abbrev pub RecordsEditIsStudy : Setup → List ℕ → List Subarea → List ℕ → Rows → ℕ → Subarea → Type 0
RecordsEditIsStudy g rain ss p l k n = EditBesideStudy (records_site g rain ss p) l k (record_of n) (records_site g rain (put_in ss k n) p)
