-- `Pond::stage_at` meets its contract: `lower` gives the two rows around x. Assumes nothing.
use Prim.Native.Nat.{◌+◌}
use native.Mathlib.Omega.{arith}
use Rattle.pond.specs.PondRows.{stage}
use Rattle.pond.proofs.Sums.{around_at, line_ok}
use Rattle.pond.proofs.Pond.stage_at.Goals as goal

pub sum_at-requires : goal.sum_at-requires
sum_at-requires c = omega (arith, (around_at c.args.self.now.sound c.args.x c.requires c.lower-i.ensures).inside)

pub line-requires : goal.line-requires
line-requires c =
    let ok = c.args.self.now.sound in
    let i = c.lower-i.result in
    let a = around_at ok c.args.x c.requires c.lower-i.ensures in
    omega (arith, line_ok ok (stage c.args.self.now.table.numbers.now) (λ k l. omega (arith, ok.table.stage_up k l)) c.args.x i a (omega (arith, ok.table.stages (i + 1) a.inside)))
