-- Demand 3, the heart of the engine: edit-is-study, chain, and what follows from them. Assumes nothing.
use mathlib.Core.Path.{◌≡◌, refl, sym, ap, ◌∙◌, subst}
use mathlib.Core.List.{List, [], ◌∷◌}
use Prim.Native.Nat.{ℕ, ◌+◌, ◌≤◌, ◌<◌}
use lib.ListN.{length}
use Rattle.laws.specs.Sum.{sum_to}
use Rattle.laws.proofs.Listed.{rows_length}
use Rattle.pond.specs.PondRows.{empty}
use Rattle.rows.specs.Routing.{outflow_of, storage_of}
use Rattle.rows.specs.Figures.{at, release_at}
use Rattle.rows.proofs.Columns.{column_length}
use Rattle.std.specs.Prelude.{Ok, Err}
use Rattle.refusals.specs.Refusals.{Line, none, answer}
use Rattle.study.specs.declared.Figures.{Figures}
use Rattle.checks.specs.Site.{Site, Rows}
use Rattle.subarea.specs.Records.{width, records_in, half_of}
use Rattle.inflow.specs.Inflow.{inflow_at, inflow_rows, inflow_of}
use Rattle.study.specs.Study.{over_of, study_refusal, study_answer, study_rows, study_figures, routed}
use Rattle.checks.specs.Order.{check_lines, lengths_good}
use Rattle.refusals.proofs.Orders.{none_new, both_pass}
use Rattle.checks.proofs.Ready.{site_ok}
use Rattle.study.proofs.Order.{study_passes, row_numbers, study_balance}
use Rattle.study.proofs.Read.{refusal_read, study_rows_read}
use Rattle.alter.specs.Altering.{altered_site}
use Rattle.edit.specs.Standing.{study_in, Standing, studied, edited, rewritten, Studied, EditIsStudy}
use Rattle.edit.proofs.Routed.{edit_of}

-- of the rows lent a study reads only how many there are
lengths_decide : (x : Site) (n l : Rows) → length n.inflow ≡ length l.inflow → length n.outflow ≡ length l.outflow → length n.storage ≡ length l.storage → study_refusal x n ≡ study_refusal x l
unfolding study_refusal lengths_good
lengths_decide x n l p q s = rw (p, q, s)

module _ (x : Site) (l : Rows) where
  study_done : (f : Figures) → study_answer x l ≡ Ok f → study_refusal x l ≡ none
  unfolding study_answer
  study_done f e = go (study_refusal x l) e
    where
      go : (v : Line) → answer v (study_figures x l) ≡ Ok f → v ≡ none
      go (Ok u) q = refl
      go (Err w) q = cc

  left_are : study_refusal x l ≡ none → study_rows x l ≡ routed (half_of x.setup) x.pond (inflow_of x l)
  unfolding study_rows
  left_are done = sym (none_new (study_refusal x l) done (routed (half_of x.setup) x.pond (inflow_of x l)) l)

-- lent the rows that a done study left, a study refuses nothing and leaves them as they are
again : (x : Site) (l : Rows) → study_refusal x l ≡ none → Studied x (study_rows x l)
again x l done =
    let n = routed (half_of x.setup) x.pond (inflow_of x l) in
    let ok = site_ok x l (both_pass (check_lines x l) (over_of x l ∷ []) (study_passes x l done)).0 in
    let long = rows_length (inflow_at x.setup x.rain x.subareas) 1 (length l.inflow) in
    let out = column_length (half_of x.setup) x.pond outflow_of empty (inflow_of x l) ∙ long ∙ sym ok.basin.run.lengths.out_long in
    let held = column_length (half_of x.setup) x.pond storage_of empty (inflow_of x l) ∙ long ∙ sym ok.basin.run.lengths.held_long in
    let clear : study_refusal x n ≡ none = lengths_decide x n l long out held ∙ done in
    let same : study_rows x n ≡ n = left_are x n clear ∙ ap (λ (m : ℕ). routed (half_of x.setup) x.pond (inflow_rows x.setup x.rain x.subareas m)) long in
    subst (λ (z : Rows). Studied x z) (sym (left_are x l done)) (record { done = clear; rows = sym same })

-- chain: after any number of accepted edits, and of rewritings of what is not read, the rows are a new study's of the site they stand on
pub chain : {x : Site} {l : Rows} → Standing x l → Studied x l
chain (studied x l f e) = again x l (study_done x l f e)
chain (edited x l so k lo hi r w f e) =
    let new = altered_site x k r in
    let same = edit_of x l (chain so) k r lo hi w in
    subst (λ (z : Rows). Studied new z) (sym same.rows) (again new l (study_done new l f.figures (sym same.answers ∙ ap study_in e)))
chain (rewritten x l so u same) =
    record {
      done = sym (refusal_read x l u same) ∙ (chain so).done;
      rows = (chain so).rows ∙ study_rows_read x l u same;
    }

module _ {x : Site} {l : Rows} (so : Standing x l) where
  -- edit-is-study: of rows that stand on a site, at any listed place and with any record, an edit answers and leaves what a study of the altered site does, lent the same rows: the same refusal where it is refused, the same rows and figures where it is done
  pub edit_is_study : (k : ℕ) → 1 ≤ k → k ≤ records_in x.subareas → (r : List ℕ) → length r ≡ width → EditIsStudy x l k r
  edit_is_study k lo hi r w = edit_of x l (chain so) k r lo hi w

  -- every row's number is below 9007199254740992
  pub standing_numbers : (i : ℕ) → i < length l.inflow → x.setup.first + i < 9007199254740992
  standing_numbers i h = row_numbers x l (chain so).done i h

  -- through every row all inflow is the water stored with the water released
  pub standing_balance : (i : ℕ) → i < length l.inflow → sum_to (at l.inflow) (i + 1) ≡ at l.storage i + sum_to (release_at (half_of x.setup) 0 l.outflow) (i + 1)
  standing_balance i h =
      subst (λ (z : Rows). sum_to (at z.inflow) (i + 1) ≡ at z.storage i + sum_to (release_at (half_of x.setup) 0 z.outflow) (i + 1)) (sym (chain so).rows) (study_balance x l (chain so).done i h)
