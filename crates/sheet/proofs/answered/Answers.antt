-- `sheet::answered` prints rows, and the peak's, that have their numbers.
use mathlib.Core.Path.{subst}
use native.Mathlib.Omega.{arith}
use lib.ListN.{length}
use Rattle.study.specs.Study.{StudyAnswer}
use Rattle.sheet.specs.Bounds.{Told}
use Rattle.sheet.proofs.answered.Goals as goal

pub print_rows-requires : goal.print_rows-requires
print_rows-requires g c =
    let n = subst (λ (a : StudyAnswer). Told c.args.study.now.setup.first (length c.args.inflow.now) a) c.in-Ok.is c.requires.told in
    record { as_many = c.requires.as_many; rows_numbered = n.0 }

pub print_figures-requires : goal.print_figures-requires
print_figures-requires g c =
    let n = subst (λ (a : StudyAnswer). Told c.args.study.now.setup.first (length c.args.inflow.now) a) c.in-Ok.is c.requires.told in
    (n.1.0, omega (arith, n.0, n.1.1))
