-- What contracts ask of a study's parts, what is left after 1 to 13, and proofs use; no rule of docs/SCOPE.md is here.
use Rattle.std.specs.Prelude.{List, ℕ}
use Rattle.refusals.specs.Refusals.{answer, after}
use Rattle.subarea.specs.Records.{half_of}
use Rattle.checks.specs.Site.{Site, Rows}
use Rattle.inflow.specs.Inflow.{inflow_of}
use Rattle.study.specs.Study.{StudyAnswer, figures_all, routed, over_check, over_of}

-- what 14 leaves of the answer, of inflow rows vs
unfoldable pub over_answer : ℕ → List ℕ → List ℕ → List ℕ → StudyAnswer
over_answer h s p vs = answer (over_check h p vs) (figures_all h s p vs)

-- and of a site, after 1 to 13
abbrev pub decided_answer : Site → Rows → StudyAnswer
decided_answer x l = over_answer (half_of x.setup) x.subareas x.pond (inflow_of x l)

abbrev pub decided_rows : Site → Rows → Rows
decided_rows x l = after (over_of x l) (routed (half_of x.setup) x.pond (inflow_of x l)) l
