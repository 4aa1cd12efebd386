-- A study of the gathered records is a study of the list flattened, also where there are too many. Assumes nothing.
use mathlib.Core.Path.{◌≡◌, sym, ap, ◌∙◌, subst}
use mathlib.Core.Bool.{false}
use mathlib.Core.Logic.{⊎_elim}
use mathlib.Core.List.{List, [], ◌∷◌, ◌++◌}
use Prim.Native.Nat.{ℕ}
use lib.ListN.{length}
use Rattle.refusals.specs.Refusals.{told, Line, none}
use Rattle.laws.specs.Limits.{most_subareas}
use Rattle.laws.proofs.Num.{below_or_not}
use Rattle.refusals.proofs.Orders.{some_old}
use Rattle.subarea.specs.declared.Setup.{Setup}
use Rattle.subarea.specs.Records.{half_of}
use Rattle.checks.specs.Site.{Rows}
use Rattle.checks.specs.Order.{records_good, list_lines, pond_lines}
use Rattle.inflow.specs.Inflow.{inflow_of}
use Rattle.study.specs.Study.{StudyAnswer, routed, over_of, study_refusal, study_answer, study_rows, study_refusal_in}
use Rattle.answers.specs.Setups.{setup_of}
use Rattle.answers.specs.StudyNumbers.{study_numbers_of}
use Rattle.host.specs.declared.records.Subarea.{Subarea}
use Rattle.host.specs.Flattened.{flat_of}
use Rattle.host.specs.Gathered.{gathered, handed}
use Rattle.host.proofs.Handing.{handed_flat, handed_none}
use Rattle.host.proofs.Refused.{none_refused, many_refused, on, alike, refuses, answers_alike}

-- lists that 5 refuses are refused alike, and nothing is written
module _ (g : Setup) (rain p : List ℕ) (l : Rows) where
  abbrev rest : List ℕ → List Line
  rest s = list_lines g s ++ (pond_lines (half_of g) p ++ (over_of (on g rain p l s) l ∷ []))

  not_done : (s : List ℕ) → records_good s ≡ false → study_refusal (on g rain p l s) l ≡ none → ⊥
  unfolding study_refusal
  not_done s e = refuses g rain p l (rest s) s e

  refusal_alike : (s u : List ℕ) → records_good s ≡ false → records_good u ≡ false → study_refusal (on g rain p l s) l ≡ study_refusal (on g rain p l u) l
  unfolding study_refusal
  refusal_alike s u e f = alike g rain p l rest s u e f

  answer_alike : (s u : List ℕ) → records_good s ≡ false → records_good u ≡ false → study_answer (on g rain p l s) l ≡ study_answer (on g rain p l u) l
  unfolding study_answer
  answer_alike s u e f = answers_alike (study_refusal (on g rain p l s) l) (not_done s e) (refusal_alike s u e f) _ _

  rows_kept : (s : List ℕ) → records_good s ≡ false → l ≡ study_rows (on g rain p l s) l
  unfolding study_rows
  rows_kept s e = some_old (study_refusal (on g rain p l s) l) (not_done s e) (routed (half_of g) p (inflow_of (on g rain p l s) l)) l

-- the three row lists as one
abbrev pub rows_of : List ℕ → List ℕ → List ℕ → Rows
rows_of i o t = record { inflow = i; outflow = o; storage = t }

-- what a study of the flat list s says of its result and of each list that it is lent
module _ (step first rule : ℕ) (rain pond inflow outflow storage s : List ℕ) where
  abbrev answer : StudyAnswer
  answer = study_answer (on (setup_of step first rule) rain pond (rows_of inflow outflow storage) s) (rows_of inflow outflow storage)

  abbrev pub StudyIs : ℕ → List ℕ → List ℕ → List ℕ → List ℕ → Type 0
  StudyIs r i o t z =
      (r ≡ (told (study_refusal_in answer)).0)
      × ((z ≡ study_numbers_of answer) × (rows_of i o t ≡ study_rows (on (setup_of step first rule) rain pond (rows_of inflow outflow storage) s) (rows_of inflow outflow storage)))

module _ (step first rule : ℕ) (rain pond inflow outflow storage : List ℕ) (r : ℕ) (i o t z : List ℕ) where
  abbrev pub Says : List ℕ → Type 0
  Says s = StudyIs step first rule rain pond inflow outflow storage s r i o t z

  refused_alike : (s u : List ℕ) → records_good s ≡ false → records_good u ≡ false → Says s → Says u
  refused_alike s u e f k =
      let g = setup_of step first rule in
      let l = rows_of inflow outflow storage in
      let same = answer_alike g rain pond l s u e f in (
        k.0 ∙ ap (λ (own : StudyAnswer). (told (study_refusal_in own)).0) same,
        (k.1.0 ∙ ap study_numbers_of same, k.1.1 ∙ sym (rows_kept g rain pond l s e) ∙ rows_kept g rain pond l u f),
      )

  pub promised : (ss : List Subarea) → Says (handed (gathered ss) (length ss)) → Says (flat_of ss)
  promised ss k =
      ⊎_elim
      (λ h. refused_alike (handed (gathered ss) (length ss)) (flat_of ss) (ap records_good (handed_none ss h) ∙ none_refused) (many_refused ss h) k)
      (λ h. subst Says (handed_flat ss h) k)
      (below_or_not most_subareas (length ss))
