-- `checks::list::all_area` meets its contract. Assumes nothing.
use mathlib.Core.Path.{◌≡◌}
use Rattle.laws.specs.Sum.{sum_to}
use Rattle.subarea.specs.Records.{record_at, area_of}
use Rattle.checks.proofs.list.all_area.Given as goal

abbrev pub invariant-loop-own : goal.invariant-loop-own
invariant-loop-own l = l.sum ≡ sum_to (λ k. area_of (record_at l.subareas k)) l.own-index
