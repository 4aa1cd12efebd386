-- An edit's numbers beside a study's: the first twelve are those of the study's answer that stands beside the edit's. Assumes nothing.
use mathlib.Core.Path.{◌≡◌, refl}
use lib.ListN.{take}
use Rattle.study.specs.Study.{study_refusal_in}
use Rattle.std.specs.Prelude.{Ok, Err}
use Rattle.refusals.specs.Refusals.{told}
use Rattle.edit.specs.Edit.{EditAnswer, edit_refusal_in}
use Rattle.edit.specs.Standing.{study_in}
use Rattle.answers.specs.StudyNumbers.{study_numbers_of}
use Rattle.answers.specs.EditNumbers.{edit_numbers_of}

pub first_twelve : (a : EditAnswer) → take 12 (edit_numbers_of a) ≡ study_numbers_of (study_in a)
first_twelve (Err v) = refl
first_twelve (Ok e) = refl

pub same_number : (a : EditAnswer) → (told (edit_refusal_in a)).0 ≡ (told (study_refusal_in (study_in a))).0
same_number (Err v) = refl
same_number (Ok e) = refl
