-- `curve::class_areas` meets its contract. The invariant: the class areas of the patches passed. Assumes nothing.
use mathlib.Core.Path.{◌≡◌}
use Rattle.curve.specs.CurveNumbers.{classes_to}
use Rattle.curve.proofs.class_areas.Given as goal

abbrev pub invariant-loop-patch : goal.invariant-loop-patch
invariant-loop-patch l = l.so ≡ classes_to l.patches l.patch-index
