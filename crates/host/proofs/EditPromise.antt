-- An edit of the gathered records is an edit of the list flattened, also where there are too many. Assumes nothing.
use mathlib.Core.Path.{◌≡◌, sym, ap, ◌∙◌, subst}
use mathlib.Core.Bool.{false}
use mathlib.Core.Logic.{⊎_elim}
use mathlib.Core.List.{List, ◌∷◌, ◌++◌}
use Prim.Native.Nat.{ℕ}
use lib.IntN.{ℤ}
use lib.ListN.{length}
use Rattle.laws.specs.Limits.{most_subareas}
use Rattle.laws.proofs.Num.{below_or_not}
use Rattle.refusals.specs.declared.Rule.TheVariants.{Place}
use Rattle.refusals.specs.Refusals.{told, unless, Line, none}
use Rattle.refusals.proofs.Orders.{some_old}
use Rattle.subarea.specs.declared.Setup.{Setup}
use Rattle.subarea.specs.Records.{half_of}
use Rattle.checks.specs.Site.{Rows}
use Rattle.checks.specs.Order.{records_good, list_lines, pond_lines}
use Rattle.alter.specs.Altering.{altered, place_good}
use Rattle.edit.specs.Edit.{EditAnswer, row_lines, edit_refusal, new_rows, edit_answer, edit_rows, edit_refusal_in, edit_values_in}
use Rattle.answers.specs.Setups.{setup_of}
use Rattle.answers.specs.EditNumbers.{edit_numbers_of, changes_of}
use Rattle.host.specs.declared.records.Subarea.{Subarea}
use Rattle.host.specs.Flattened.{flat_of}
use Rattle.host.specs.Gathered.{gathered, handed}
use Rattle.host.proofs.Handing.{handed_flat, handed_none}
use Rattle.host.proofs.Refused.{none_refused, many_refused, on, alike, refuses, answers_alike}
use Rattle.host.proofs.StudyPromise.{rows_of}

-- lists that 5 refuses are refused alike, and nothing is written
module _ (g : Setup) (rain p : List ℕ) (l : Rows) (k : ℕ) (r : List ℕ) where
  abbrev rest : List ℕ → List Line
  rest s = unless Place (place_good s k) ∷ (list_lines g s ++ (list_lines g (altered s k r) ++ (pond_lines (half_of g) p ++ row_lines (on g rain p l s) l k r)))

  not_done : (s : List ℕ) → records_good s ≡ false → edit_refusal (on g rain p l s) l k r ≡ none → ⊥
  unfolding edit_refusal
  not_done s e = refuses g rain p l (rest s) s e

  refusal_alike : (s u : List ℕ) → records_good s ≡ false → records_good u ≡ false → edit_refusal (on g rain p l s) l k r ≡ edit_refusal (on g rain p l u) l k r
  unfolding edit_refusal
  refusal_alike s u e f = alike g rain p l rest s u e f

  answer_alike : (s u : List ℕ) → records_good s ≡ false → records_good u ≡ false → edit_answer (on g rain p l s) l k r ≡ edit_answer (on g rain p l u) l k r
  unfolding edit_answer
  answer_alike s u e f = answers_alike (edit_refusal (on g rain p l s) l k r) (not_done s e) (refusal_alike s u e f) _ _

  rows_kept : (s : List ℕ) → records_good s ≡ false → l ≡ edit_rows (on g rain p l s) l k r
  unfolding edit_rows
  rows_kept s e = some_old (edit_refusal (on g rain p l s) l k r) (not_done s e) (new_rows (on g rain p l s) l k r) l

-- what an edit of the flat list s says of its result and of each list that it is lent
module _ (step first rule : ℕ) (rain pond inflow outflow storage : List ℕ) (place : ℕ) (fresh s : List ℕ) where
  abbrev answer : EditAnswer
  answer = edit_answer (on (setup_of step first rule) rain pond (rows_of inflow outflow storage) s) (rows_of inflow outflow storage) place fresh

  abbrev pub EditIs : ℕ → List ℕ → List ℕ → List ℕ → List ℕ → List ℤ → Type 0
  EditIs r i o t z c =
      (r ≡ (told (edit_refusal_in answer)).0)
      × ((z ≡ edit_numbers_of answer)
      × ((c ≡ changes_of (edit_values_in answer)) × (rows_of i o t ≡ edit_rows (on (setup_of step first rule) rain pond (rows_of inflow outflow storage) s) (rows_of inflow outflow storage) place fresh)))

module _ (step first rule : ℕ) (rain pond inflow outflow storage : List ℕ) (place : ℕ) (fresh : List ℕ) (r : ℕ) (i o t z : List ℕ) (c : List ℤ) where
  abbrev pub Says : List ℕ → Type 0
  Says s = EditIs step first rule rain pond inflow outflow storage place fresh s r i o t z c

  refused_alike : (s u : List ℕ) → records_good s ≡ false → records_good u ≡ false → Says s → Says u
  refused_alike s u e f k =
      let g = setup_of step first rule in
      let l = rows_of inflow outflow storage in
      let same = answer_alike g rain pond l place fresh s u e f in (
        k.0 ∙ ap (λ (own : EditAnswer). (told (edit_refusal_in own)).0) same,
        (
          k.1.0 ∙ ap edit_numbers_of same,
          (k.1.1.0 ∙ ap (λ (own : EditAnswer). changes_of (edit_values_in own)) same, k.1.1.1 ∙ sym (rows_kept g rain pond l place fresh s e) ∙ rows_kept g rain pond l place fresh u f),
        ),
      )

  pub promised : (ss : List Subarea) → Says (handed (gathered ss) (length ss)) → Says (flat_of ss)
  promised ss k =
      ⊎_elim
      (λ h. refused_alike (handed (gathered ss) (length ss)) (flat_of ss) (ap records_good (handed_none ss h) ∙ none_refused) (many_refused ss h) k)
      (λ h. subst Says (handed_flat ss h) k)
      (below_or_not most_subareas (length ss))
