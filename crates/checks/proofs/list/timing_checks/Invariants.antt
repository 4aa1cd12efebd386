-- `checks::list::timing_checks` meets its contract. Assumes nothing.
use Rattle.std.proofs.Common.{ℕ, ◌≡◌, Bool, List}
use Rattle.hydrograph.specs.InflowRows.{concentration_good, peak_good, weights_good}
use Rattle.refusals.specs.declared.Rule.{Rule}
use Rattle.refusals.specs.declared.Rule.TheVariants.{Concentration, Coarse, Weights}
use Rattle.refusals.specs.Refusals.{Line, first_of}
use Rattle.laws.specs.Search.{first_bad_of}
use Rattle.subarea.specs.Records.{record_at, time_of}
use Rattle.checks.proofs.list.timing_checks.Given as goal

-- the first refusal of the first i records
abbrev pub so_far : Rule → (ℕ → Bool) → List ℕ → ℕ → Line
so_far r good s i = first_of r (first_bad_of (λ k. good (time_of (record_at s k))) i)

abbrev pub invariant-loop-i : goal.invariant-loop-i
invariant-loop-i l =
    (l.slow ≡ so_far Concentration concentration_good l.subareas l.i)
    × ((l.coarse ≡ so_far Coarse (peak_good l.setup.step) l.subareas l.i) × (l.long ≡ so_far Weights (weights_good l.setup.step) l.subareas l.i))
