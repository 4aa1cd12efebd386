-- `textbook::add_parts` meets its contract. Assumes nothing.
use mathlib.Core.Path.{◌≡◌}
use mathlib.Core.List.{List}
use Prim.Native.Nat.{ℕ}
use lib.ListN.{get_or}
use Rattle.laws.specs.Sum.{sum_to}
use Rattle.laws.proofs.Listed.{Adding}
use Rattle.textbook.specs.Needs.{through_of, part_of_laid}
use Rattle.textbook.proofs.add_parts.Given as goal

-- what is laid into the first k rows
abbrev pub sum_of : List ℕ → ℕ → ℕ
sum_of laid k = sum_to (λ i. get_or laid i 0) k

abbrev pub invariant-loop-i : goal.invariant-loop-i
invariant-loop-i l =
    (l.sum ≡ sum_of l.laid l.i) × ((l.before ≡ through_of l.area l.total l.laid l.i) × Adding (part_of_laid l.area l.total l.laid) l.initial.rows l.rows l.i)
