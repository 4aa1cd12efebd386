-- What each check that refuses nothing leaves. Assumes nothing.
use mathlib.Core.Path.{◌≡◌}
use mathlib.Core.Bool.{Bool, true}
use mathlib.Core.List.{List}
use Prim.Native.Nat.{ℕ, ◌<◌}
use Rattle.refusals.specs.declared.Rule.{Rule}
use Rattle.refusals.specs.Refusals.{none}
use Rattle.refusals.proofs.Orders.{first_none}
use Rattle.laws.proofs.Places.{search_passes}
use Rattle.subarea.specs.Records.{records_in, record_at}
use Rattle.checks.specs.Order.{each, over_list}

module _ (s : List ℕ) where
  -- a test of each record that refuses nothing found each one good
  pub each_passes : (r : Rule) (good : List ℕ → Bool) → over_list s (each r good) ≡ none → (i : ℕ) → i < records_in s → good (record_at s i) ≡ true
  each_passes r good e = search_passes (λ k. good (record_at s k)) (records_in s) (first_none r _ e)
