-- Demand 3: rows that stand on a site, and that an edit of them is a study of the altered site.
use Rattle.std.specs.Prelude.{◌≡◌, List, ℕ, ◌≤◌, length, take, Ok, Err}
use Rattle.study.specs.declared.Figures.{Figures}
use Rattle.refusals.specs.Refusals.{none}
use Rattle.checks.specs.Site.{Site, Rows, with_subareas}
use Rattle.subarea.specs.Records.{width, records_in, SameRead}
use Rattle.study.specs.Study.{StudyAnswer, study_refusal, study_answer, study_rows}
use Rattle.alter.specs.Altering.{altered_site}
use Rattle.rewrite.specs.declared.Edited.{Edited}
use Rattle.edit.specs.Edit.{EditAnswer, edit_answer, edit_rows}

-- an edit's answer beside a study's: the same refusal, or the same figures
abbrev pub study_in : EditAnswer → StudyAnswer
study_in (Ok e) = Ok e.figures
study_in (Err v) = Err v

-- rows l stand on the site x: a done study of x left them; or a done edit of rows standing on a site, at a listed place, left them and x is that site altered; or they stand on a site of whose subareas the same is read (a host may rewrite what stands behind a record's counts and in spare numbers)
-- from the study through all edits there is one setup: an edit has the sheet rule of its study (Q-4), as it has its step and first row number; it cannot see it in the rows, so that it does is a premise of demand 3
pub data Standing : Site → Rows → Type 0 where
  studied : (x : Site) (l : Rows) (f : Figures) → study_answer x l ≡ Ok f → Standing x (study_rows x l)
  edited : (x : Site) (l : Rows) → Standing x l → (k : ℕ) → 1 ≤ k → k ≤ records_in x.subareas → (r : List ℕ) → length r ≡ width
      → (e : Edited) → edit_answer x l k r ≡ Ok e → Standing (altered_site x k r) (edit_rows x l k r)
  rewritten : (x : Site) (l : Rows) → Standing x l → (u : List ℕ) → SameRead x.subareas u → Standing (with_subareas x u) l

-- rows that are those of a done study of the site: a study that is lent them leaves them as they are
pub record Studied (x : Site) (l : Rows) : Type 0 where
  pub done : study_refusal x l ≡ none
  pub rows : l ≡ study_rows x l

-- an edit answers and leaves what a study of the altered site does, lent the same rows
pub record EditIsStudy (x : Site) (l : Rows) (k : ℕ) (r : List ℕ) : Type 0 where
  pub answers : study_in (edit_answer x l k r) ≡ study_answer (altered_site x k r) l
  pub rows : edit_rows x l k r ≡ study_rows (altered_site x k r) l

-- the first a rows
abbrev pub first_rows : ℕ → Rows → Rows
first_rows a l = record { inflow = take a l.inflow; outflow = take a l.outflow; storage = take a l.storage }
