-- `rows::stands_good` meets its contract. Assumes nothing.
use mathlib.Core.Path.{◌≡◌, refl}
use mathlib.Core.Bool.{Bool, true, false, ◌&&◌}
use Prim.Native.Nat.{◌+◌, ◌-◌, ◌*◌, ◌≤◌}
use native.Mathlib.Nat.{mul-le-mul}
use native.Mathlib.Omega.{arith}
use borrow.Author.Tests.{le-leb, lt-leb}
use Rattle.laws.proofs.Num.{mul_fits}
use Rattle.pond.specs.PondRows.{rows_in, last_discharge}
use Rattle.pond.specs.Needs.{TableOk}
use Rattle.pond.proofs.Sums.{last_most}
use Rattle.rows.specs.Figures.{stands_within}
use Rattle.rows.proofs.stands_good.Goals as goal

-- a test with one that fails fails
and_false : (a : Bool) → (a && false) ≡ false
and_false true = refl
and_false false = refl

discharge_most : {p : _} → TableOk p → last_discharge p ≤ 10000000
discharge_most {p} ok = ok.discharges (rows_in p - 1) (omega (arith, ok.least))

pub returns-then-most-outflow : goal.returns-then-most-outflow
unfolding stands_within
returns-then-most-outflow c = rw (← c.requires.0, lt-leb c.args.outflow c.args.most c.if-most-outflow.true)

pub overflow_mul-part : goal.overflow_mul-part
overflow_mul-part c = mul_fits 1800 10000000 c.args.pond.now.sound.half.most (omega (arith, c.requires.0, discharge_most c.args.pond.now.sound.table)) tt

pub returns-then-top-storage : goal.returns-then-top-storage
unfolding stands_within
returns-then-top-storage c =
    let s = c.args in
    rw (← c.requires.0, ← c.requires.1, le-leb s.outflow s.most (omega arith), lt-leb (s.storage + s.pond.now.half * s.outflow) s.top (omega arith), and_false)

pub overflow_add-result : goal.overflow_add-result
overflow_add-result c =
    let few : c.args.outflow ≤ 10000000 = omega (arith, c.requires.0, discharge_most c.args.pond.now.sound.table) in
    omega (arith, c.requires.1, last_most c.args.pond.now.sound, mul-le-mul c.args.pond.now.sound.half.most few)

pub returns : goal.returns
unfolding stands_within
returns c =
    let s = c.args in
    rw (← c.requires.0, ← c.requires.1, le-leb s.outflow s.most (omega arith)) refl
