-- Only what is read counts, of an edit: a list of subareas and a fresh record that agree with others within the counts of each record are answered alike, whatever stands behind. Assumes nothing.
use mathlib.Core.Path.{◌≡◌, refl, sym, ap, ◌∙◌, subst}
use mathlib.Core.Bool.{Bool}
use mathlib.Core.Logic.{⊎_elim}
use mathlib.Core.List.{List, [], ◌∷◌, ◌++◌}
use Prim.Native.Nat.{ℕ, ◌+◌, ◌-◌, ◌<◌}
use native.Mathlib.Omega.{arith}
use lib.ListN.{length}
use Rattle.laws.proofs.Scans.{scan_same}
use Rattle.curve.specs.declared.Classes.{Classes}
use Rattle.rows.specs.Figures.{at}
use Rattle.std.specs.Prelude.{Ok, Err}
use Rattle.refusals.specs.declared.Rule.{Rule}
use Rattle.refusals.specs.declared.Rule.TheVariants.{Place, InflowRow}
use Rattle.refusals.specs.declared.Refusal.{Refusal}
use Rattle.refusals.specs.Refusals.{Line, unless, stopped, first_of, first_refusal, answer, after}
use Rattle.refusals.proofs.Orders.{stops, all_pass, refused_answer, refused_old}
use Rattle.subarea.specs.Records.{half_of, width, records_in, record_at, SameRecord, SameRead}
use Rattle.checks.specs.Site.{Site, Rows, with_subareas}
use Rattle.checks.specs.Order.{run_lines, list_lines, pond_lines, forged_line}
use Rattle.study.specs.Study.{classes_all}
use Rattle.study.proofs.Read.{part_read, count_read, lines_read, classes_read, run_read}
use Rattle.alter.specs.Altering.{altered, old_record, old_part, fresh_part, swapped, new_inflow_of, place_good}
use Rattle.alter.specs.Needs.{PlaceOk}
use Rattle.alter.proofs.Places.{same_or_not, altered_length, altered_here, altered_other}
use Rattle.alter.proofs.Ready.{place_lines, place_ready}
use Rattle.fitting.specs.Fits.{inflow_fits}
use Rattle.rewrite.specs.Rewriting.{rerouted, edited_of}
use Rattle.edit.specs.Edit.{unfit_of, over_from, row_lines, edit_refusal, new_rows, edit_done, edit_answer, edit_rows}

-- the altered lists are again alike
module _ (s u : List ℕ) (k : ℕ) (r q : List ℕ) (same : SameRead s u) (fresh : SameRecord r q) (whole : length q ≡ width) (ok : PlaceOk s k r) where
  place_too : PlaceOk u k q
  place_too =
      record {
        records = record { whole = omega (arith, same.long, ok.records.whole); least = omega (arith, count_read s u same, ok.records.least); most = omega (arith, count_read s u same, ok.records.most) };
        listed = ok.listed;
        last = omega (arith, count_read s u same, ok.last);
        whole = whole;
      }

  old_read : SameRecord (old_record s k) (old_record u k)
  old_read = same.each (k - 1) (omega (arith, ok.listed, ok.last))

  altered_read : SameRead (altered s k r) (altered u k q)
  altered_read = record { long = long; each = λ i h. ⊎_elim (here i) (other i (omega (arith, h, altered_length s k r ok))) (same_or_not i (k - 1)) }
    where
      long : length (altered s k r) ≡ length (altered u k q)
      long = altered_length s k r ok ∙ same.long ∙ sym (altered_length u k q place_too)

      here : (i : ℕ) → i ≡ k - 1 → SameRecord (record_at (altered s k r) i) (record_at (altered u k q) i)
      here i e =
          let a : record_at (altered s k r) i ≡ r = ap (record_at (altered s k r)) e ∙ altered_here s k r ok in
          let b : record_at (altered u k q) i ≡ q = ap (record_at (altered u k q)) e ∙ altered_here u k q place_too in
          subst (λ (z : List ℕ). SameRecord z (record_at (altered u k q) i)) (sym a) (subst (λ (z : List ℕ). SameRecord r z) (sym b) fresh)

      other : (i : ℕ) → i < records_in s → (i ≡ k - 1 → ⊥) → SameRecord (record_at (altered s k r) i) (record_at (altered u k q) i)
      other i h n =
          subst (λ (z : List ℕ). SameRecord z (record_at (altered u k q) i)) (sym (altered_other s k r ok i n)) (subst (λ (z : List ℕ). SameRecord (record_at s i) z) (sym (altered_other u k q place_too i n)) (same.each i h))

-- rows of parts that agree
swapped_same : (f g f' g' : ℕ → ℕ) → ((j : ℕ) → f j ≡ f' j) → ((j : ℕ) → g j ≡ g' j) → (k : ℕ) (vs : List ℕ) → swapped f g k vs ≡ swapped f' g' k vs
unfolding swapped
swapped_same f g f' g' e d k [] = refl
swapped_same f g f' g' e d k (v ∷ vs) = rw (e k, d k, swapped_same f g f' g' e d (k + 1) vs)

-- 1 to 5 and 15 that refuse decide an edit
front_decides : (x : Site) (l : Rows) (k : ℕ) (r : List ℕ) {e : Refusal Rule} → Err e ≡ first_refusal (place_lines x l k) → Err e ≡ edit_refusal x l k r
unfolding edit_refusal
front_decides x l k r n =
    let s = x.subareas in
    stops (place_lines x l k) ((list_lines x.setup s ++ (list_lines x.setup (altered s k r) ++ pond_lines (half_of x.setup) x.pond)) ++ row_lines x l k r) n

module _ (x : Site) (l : Rows) (k : ℕ) (u : List ℕ) (same : SameRead x.subareas u) where
  -- 1 to 5 and 15
  listed_read : place_good x.subareas k ≡ place_good u k
  unfolding place_good
  listed_read = rw (count_read x.subareas u same)

  place_read : place_lines x l k ≡ place_lines (with_subareas x u) l k
  place_read =
      ap (λ (run : List Line). run ++ (unless Place (place_good x.subareas k) ∷ [])) (run_read x l u same)
      ∙ ap (λ (b : Bool). run_lines (with_subareas x u) l ++ (unless Place b ∷ [])) listed_read

  module _ (r q : List ℕ) (fresh : SameRecord r q) (whole : length q ≡ width) where
    -- at a listed place
    module _ (ok : PlaceOk x.subareas k r) where
      abbrev h : ℕ
      h = half_of x.setup

      abbrev s : List ℕ
      s = x.subareas

      old_same : (j : ℕ) → old_part x k j ≡ old_part (with_subareas x u) k j
      old_same j = part_read (old_record s k) (old_record u k) (old_read s u k r q same fresh whole ok) x.setup x.rain j

      new_same : new_inflow_of x l k r ≡ new_inflow_of (with_subareas x u) l k q
      new_same =
          swapped_same (old_part x k) (fresh_part x r) (old_part (with_subareas x u) k) (fresh_part x q) old_same (λ j. part_read r q fresh x.setup x.rain j) 1 l.inflow

      -- 16
      unfit_same : unfit_of x l k ≡ unfit_of (with_subareas x u) l k
      unfit_same =
          ap (λ (i : ℕ). first_of InflowRow (stopped i (length l.inflow)))
          (scan_same (λ i. inflow_fits (old_part x k (i + 1)) (at l.inflow i)) (λ i. inflow_fits (old_part (with_subareas x u) k (i + 1)) (at l.inflow i)) (length l.inflow) 0
          (λ i lo hi. ap (λ (f : ℕ). inflow_fits f (at l.inflow i)) (old_same (i + 1))))

      -- an order of an edit, by what of it reads the subareas
      abbrev ordered : List Line → List Line → List Line → Line → List ℕ → Line
      ordered place stood new unfit ws =
          first_refusal (place ++ ((stood ++ (new ++ pond_lines (half_of x.setup) x.pond)) ++ (unfit ∷ forged_line (half_of x.setup) x.pond l ∷ over_from (half_of x.setup) x.pond l ws ∷ [])))

      refusal_same : edit_refusal x l k r ≡ edit_refusal (with_subareas x u) l k q
      unfolding edit_refusal
      refusal_same =
          let g = x.setup in
          let alike = altered_read s u k r q same fresh whole ok in
          let new = with_subareas x u in
          ap (λ (z : List Line). ordered z (list_lines g s) (list_lines g (altered s k r)) (unfit_of x l k) (new_inflow_of x l k r)) place_read
          ∙ ap (λ (z : List Line). ordered (place_lines new l k) z (list_lines g (altered s k r)) (unfit_of x l k) (new_inflow_of x l k r)) (lines_read s u same g)
          ∙ ap (λ (z : List Line). ordered (place_lines new l k) (list_lines g u) z (unfit_of x l k) (new_inflow_of x l k r)) (lines_read (altered s k r) (altered u k q) alike g)
          ∙ ap (λ (z : Line). ordered (place_lines new l k) (list_lines g u) (list_lines g (altered u k q)) z (new_inflow_of x l k r)) unfit_same
          ∙ ap (λ (z : List ℕ). ordered (place_lines new l k) (list_lines g u) (list_lines g (altered u k q)) (unfit_of new l k) z) new_same

      answer_same : edit_answer x l k r ≡ edit_answer (with_subareas x u) l k q
      unfolding edit_answer
      answer_same =
          let v = edit_refusal (with_subareas x u) l k q in
          let p = x.pond in
          ap (λ (z : Line). answer z (edit_done x l k r)) refusal_same
          ∙ ap (λ (z : List ℕ). answer v (edited_of h (classes_all (altered s k r)) p l (rerouted h p l z))) new_same
          ∙ ap (λ (c : Classes). answer v (edited_of h c p l (new_rows (with_subareas x u) l k q))) (classes_read (altered s k r) (altered u k q) (altered_read s u k r q same fresh whole ok))

      left_same : edit_rows x l k r ≡ edit_rows (with_subareas x u) l k q
      unfolding edit_rows
      left_same =
          ap (λ (z : Line). after z (new_rows x l k r) l) refusal_same
          ∙ ap (λ (z : List ℕ). after (edit_refusal (with_subareas x u) l k q) (rerouted h x.pond l z) l) new_same

    -- where 1 to 5 or 15 refuse
    module _ {e : Refusal Rule} (n : Err e ≡ first_refusal (place_lines x l k)) where
      refused : Err e ≡ edit_refusal x l k r
      refused = front_decides x l k r n

      refused_too : Err e ≡ edit_refusal (with_subareas x u) l k q
      refused_too = front_decides (with_subareas x u) l k q (n ∙ ap first_refusal place_read)

      answer_refused : edit_answer x l k r ≡ edit_answer (with_subareas x u) l k q
      unfolding edit_answer
      answer_refused = sym (refused_answer refused (edit_done x l k r)) ∙ refused_answer refused_too (edit_done (with_subareas x u) l k q)

      left_refused : edit_rows x l k r ≡ edit_rows (with_subareas x u) l k q
      unfolding edit_rows
      left_refused = sym (refused_old refused (new_rows x l k r) l) ∙ refused_old refused_too (new_rows (with_subareas x u) l k q) l

    -- an edit answers and leaves the same
    pub edit_read : length r ≡ width → (edit_answer x l k r ≡ edit_answer (with_subareas x u) l k q) × (edit_rows x l k r ≡ edit_rows (with_subareas x u) l k q)
    edit_read wide = go (first_refusal (place_lines x l k)) refl
      where
        go : (v : Line) → first_refusal (place_lines x l k) ≡ v → (edit_answer x l k r ≡ edit_answer (with_subareas x u) l k q) × (edit_rows x l k r ≡ edit_rows (with_subareas x u) l k q)
        go (Ok t) e =
            let ok = (place_ready x l k r wide (all_pass (place_lines x l k) e)).1 in
            (answer_same ok, left_same ok)
        go (Err v) e = (answer_refused (sym e), left_refused (sym e))
