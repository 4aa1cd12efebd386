-- `study::all_classes` meets its contract. Assumes nothing.
use mathlib.Core.Path.{◌≡◌}
use Rattle.study.proofs.Totals.{classes_to}
use Rattle.study.proofs.all_classes.Given as goal

abbrev pub invariant-loop-own : goal.invariant-loop-own
invariant-loop-own l = l.sum ≡ classes_to l.subareas l.own-index
