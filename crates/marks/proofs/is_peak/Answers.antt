-- `marks::is_peak` meets its contract. Assumes nothing.
use mathlib.Core.Path.{◌≡◌, refl, sym, ap, ◌∙◌}
use mathlib.Core.Bool.{Bool, true, false, not, false≢true}
use mathlib.Core.List.{List}
use Prim.Native.Nat.{ℕ, ◌+◌}
use borrow.Author.Tests.{ne_eqb}
use lib.ListN.{length}
use Rattle.std.specs.Prelude.{Option, None, Some}
use Rattle.std.specs.Option.{is_some, is_none}
use Rattle.laws.proofs.Fill.{tail_part}
use Rattle.rows.specs.Figures.{at, peak_row}
use Rattle.marks.specs.Needs.{first_at_least}
use Rattle.marks.proofs.Peaks.{peak_first, peak_told}
use Rattle.marks.proofs.is_peak.Goals as goal

-- what a test of a search says
none_is : (o : Option ℕ) (b : Bool) → is_some o ≡ not b → b ≡ is_none o
none_is None true e = refl
none_is None false e = absurd (false≢true e)
none_is (Some k) true e = absurd (false≢true (sym e))
none_is (Some k) false e = refl

none_found : (o : Option ℕ) → is_none o ≡ true → o ≡ None
none_found None e = refl
none_found (Some k) e = absurd (false≢true e)

-- no row before it is as high: the rows after it decide
pub returns-then-is_none : goal.returns-then-is_none
returns-then-is_none c =
    let os = c.args.outflow.now in
    let i = c.args.i in
    let none = none_is c.first_at_least.result c.is_none.result c.is_none.ensures in
    let first = sym c.first_at_least.ensures ∙ none_found c.first_at_least.result (sym none ∙ c.if-is_none.true) in
    let later = c.first_at_least-then-is_none.ensures ∙ ap (λ (l : List ℕ). first_at_least l (at os i + 1)) (tail_part os (i + 1)) in
    none_is c.first_at_least-then-is_none.result c.is_none-then-is_none.result c.is_none-then-is_none.ensures
    ∙ ap is_none later
    ∙ peak_told os i c.requires.0 first

-- one is: it is not the peak row
pub returns-else-is_none : goal.returns-else-is_none
returns-else-is_none c =
    let os = c.args.outflow.now in
    let i = c.args.i in
    let none = none_is c.first_at_least.result c.is_none.result c.is_none.ensures in
    c.if-is_none.false
    ∙ sym (ne_eqb (i + 1) (peak_row os (length os)) (λ q.
    false≢true (sym c.if-is_none.false ∙ none ∙ ap is_none (c.first_at_least.ensures ∙ peak_first os i c.requires.0 q))))
