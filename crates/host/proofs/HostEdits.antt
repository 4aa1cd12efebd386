-- Demand 3 as a host has it: of rows that stand on a site, and at a listed place, an edit gives and leaves what a study of the altered list does. Assumes nothing.
use mathlib.Core.Path.{◌≡◌, ap, ◌∙◌, subst}
use mathlib.Core.List.{List}
use Prim.Native.Nat.{ℕ, ◌≤◌}
use native.Mathlib.Omega.{arith}
use lib.ListN.{length}
use Rattle.refusals.specs.Refusals.{told}
use Rattle.subarea.specs.declared.Setup.{Setup}
use Rattle.subarea.specs.Records.{width, records_in}
use Rattle.checks.specs.Site.{Site, Rows}
use Rattle.study.specs.Study.{StudyAnswer, study_refusal_in}
use Rattle.alter.specs.Altering.{altered_site}
use Rattle.rewrite.specs.declared.Edited.{Edited}
use Rattle.std.specs.Prelude.{Ok}
use Rattle.edit.specs.Edit.{edit_answer, edit_rows}
use Rattle.edit.specs.Standing.{Standing, edited}
use Rattle.edit.proofs.EditIsStudy.{edit_is_study}
use Rattle.answers.specs.StudyNumbers.{study_numbers_of}
use Rattle.answers.proofs.Beside.{first_twelve, same_number}
use Rattle.host.specs.declared.records.Subarea.{Subarea}
use Rattle.host.specs.Flattened.{record_of, put_in}
use Rattle.host.specs.HostEdits.{EditBesideStudy, HostEditIsStudy, records_site, RecordsEditIsStudy}
use Rattle.host.proofs.Handing.{record_length}
use Rattle.host.proofs.RecordEdits.{put_in_flat, records_in_flat}

-- a flat list
pub host_edit_is_study : {x : Site} {l : Rows} → Standing x l → (k : ℕ) → 1 ≤ k → k ≤ records_in x.subareas → (r : List ℕ) → length r ≡ width → HostEditIsStudy x l k r
host_edit_is_study {x} {l} so k lo hi r w =
    let same = edit_is_study so k lo hi r w in
    let a = edit_answer x l k r in
    record {
      returned = same_number a ∙ ap (λ (z : StudyAnswer). (told (study_refusal_in z)).0) same.answers;
      first_twelve = first_twelve a ∙ ap study_numbers_of same.answers;
      left = same.rows;
    }

module _ (g : Setup) (rain : List ℕ) (ss : List Subarea) (p : List ℕ) (l : Rows) (so : Standing (records_site g rain ss p) l) (k : ℕ) (lo : 1 ≤ k) (hi : k ≤ length ss) (n : Subarea) where
  abbrev here : Site
  here = records_site g rain ss p

  -- the altered site is that of the list with n in place k
  put_in_site : altered_site here k (record_of n) ≡ records_site g rain (put_in ss k n) p
  put_in_site = ap (λ (s : List ℕ). record { setup = g; rain = rain; subareas = s; pond = p }) (put_in_flat ss k n)

  listed : k ≤ records_in here.subareas
  listed = omega (arith, hi, records_in_flat ss)

  -- a list of records
  pub records_edit_is_study : RecordsEditIsStudy g rain ss p l k n
  records_edit_is_study = subst (λ (y : Site). EditBesideStudy here l k (record_of n) y) put_in_site (host_edit_is_study so k lo listed (record_of n) (record_length n))

  -- the rows of a done edit stand on the site of the list with n in place k, so that the next edit is lent that list
  pub records_stand : (e : Edited) → edit_answer here l k (record_of n) ≡ Ok e → Standing (records_site g rain (put_in ss k n) p) (edit_rows here l k (record_of n))
  records_stand e done =
      subst (λ (y : Site). Standing y (edit_rows here l k (record_of n))) put_in_site (edited here l so k lo listed (record_of n) (record_length n) e done)
