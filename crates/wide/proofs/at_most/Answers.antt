-- `wide::at_most` meets its contract: from limb i on the two are the same. Assumes nothing.
use mathlib.Core.Path.{◌≡◌, sym}
use native.Mathlib.Nat.{le_of_lt, le_of_eq}
use native.Mathlib.Omega.{arith}
use borrow.Author.Tests.{le-leb, lt-leb}
use Rattle.wide.proofs.Limbs.{alike_start, alike_less, alike_down, alike_back, alike_end}
use Rattle.wide.proofs.at_most.Goals as goal

pub loop-i-init : goal.loop-i-init
loop-i-init c = alike_start c.requires.0 c.requires.1

pub returns-then-a-i : goal.returns-then-a-i
returns-then-a-i c =
    sym (le-leb _ _ (le_of_lt (alike_less c.requires.0 c.requires.1 c.loop-i.invariant (omega arith) c.if-a-i.true)))

pub returns-then-b-i : goal.returns-then-b-i
returns-then-b-i c =
    sym (lt-leb _ _ (alike_less c.requires.1 c.requires.0 (alike_back c.loop-i.invariant) (omega arith) c.if-b-i.true))

pub loop-i-preserved : goal.loop-i-preserved
loop-i-preserved c =
    alike_down c.requires.0 c.requires.1 c.loop-i.invariant (omega arith) (omega arith)

pub returns : goal.returns
returns c =
    let e : c.loop-i.i ≡ 0 = omega arith in
    sym (le-leb _ _ (le_of_eq (alike_end (rw e at c.loop-i.invariant))))
