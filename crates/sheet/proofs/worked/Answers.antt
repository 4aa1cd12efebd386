-- `sheet::worked` hands on what the engine tells of its rows' numbers.
use mathlib.Core.Path.{◌≡◌, sym, subst}
use Prim.Native.Nat.{ℕ}
use native.Mathlib.Omega.{arith}
use lib.ListN.{length}
use Rattle.checks.specs.Site.{Site, Rows, site_now, rows_now, asked}
use Rattle.study.specs.Study.{StudyAnswer}
use Rattle.sheet.specs.Bounds.{Told}
use Rattle.sheet.proofs.Numbers.{told}
use Rattle.sheet.proofs.worked.Goals as goal

pub answered-requires-clause-told : goal.answered-requires-clause-told
answered-requires-clause-told g c =
    let s = c.args in
    let x : Site = site_now s.study.now.setup c.deref.result.now c.subareas.result.now c.pond.result.now in
    let l : Rows = rows_now s.inflow.now s.outflow.now s.storage.now in
    let long : length c.run-answer.new.inflow ≡ length s.inflow.now = omega arith in
    subst (λ (m : ℕ). Told s.study.now.setup.first m c.run-answer.result) (sym long)
    (subst (λ (a : StudyAnswer). Told s.study.now.setup.first (asked l) a) (sym c.run-answer.ensures.value) (told x l))
