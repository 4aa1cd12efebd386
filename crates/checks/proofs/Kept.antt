-- A pass over the records that keeps the first place of a rule. Assumes nothing.
use mathlib.Core.Path.{◌≡◌, refl, ap, ◌∙◌}
use mathlib.Core.Bool.{Bool}
use mathlib.Core.List.{List}
use Prim.Native.Nat.{ℕ, ◌+◌}
use Rattle.laws.specs.Search.{first_bad_of}
use Rattle.refusals.specs.declared.Rule.{Rule}
use Rattle.refusals.specs.Refusals.{Line, none, or_else, charge, first_of}
use Rattle.refusals.proofs.Scanned as Scanned
use Rattle.subarea.specs.Records.{records_in, record_at}
use Rattle.checks.specs.Order.{each, over_list}

module _ (good : List ℕ → Bool) (s : List ℕ) where
  -- the first refusal, by rule r, of the first i records
  abbrev pub so_far : Rule → ℕ → Line
  so_far r i = first_of r (first_bad_of (λ j. good (record_at s j)) i)

  pub none_yet : (r : Rule) → none ≡ so_far r 0
  none_yet r = refl

  -- with one record more
  pub one_record : (r : Rule) (i : ℕ) {u v w : Line} → u ≡ or_else v w → v ≡ so_far r i → w ≡ charge r (good (record_at s i)) (i + 1) → u ≡ so_far r (i + 1)
  one_record r i e f g = Scanned.one_record (λ j. good (record_at s j)) r i e f g

  -- of all
  pub all_records : (r : Rule) {i : ℕ} {v : Line} → v ≡ so_far r i → i ≡ records_in s → v ≡ over_list s (each r good)
  all_records r e f = e ∙ ap (so_far r) f
