-- `sheet::results::row_at` has a number and a time that fit.
use native.Mathlib.Omega.{arith}
use Rattle.laws.proofs.Num.{mul_fits}
use Rattle.sheet.proofs.results.row_at.Goals as goal

pub row_number-number-requires : goal.row_number-number-requires
row_number-number-requires c =
    (omega arith, omega (arith, c.requires.rows_numbered, c.requires.in_range))

pub overflow_mul-seconds : goal.overflow_mul-seconds
overflow_mul-seconds c =
    mul_fits 2002 3601 (omega (arith, c.requires.as_many.few, c.requires.in_range)) (omega (arith, c.requires.halved, c.args.pond.now.sound.half.most)) tt
