-- `checks::last_good` meets its contract. Assumes nothing.
use mathlib.Core.Path.{◌≡◌}
use Prim.Native.Nat.{ℕ, ◌+◌, ◌-◌, ◌≤◌}
use native.Mathlib.Omega.{arith}
use borrow.Author.Tests.{lt-leb}
use lib.Dec.{leb}
use Rattle.laws.specs.Limits.{last_number}
use Rattle.laws.proofs.Tests.{leb_same}
use Rattle.checks.specs.Order.{last_good}
use Rattle.checks.proofs.last_good.Goals as goal

-- the difference tests the sum
moved : (first m : ℕ) → first ≤ last_number + 1 → leb m (last_number + 1 - first) ≡ leb (first + m - 1) last_number
moved first m l = leb_same m (last_number + 1 - first) (first + m - 1) last_number (λ h. omega (arith, h, l)) (λ h. omega (arith, h, l))

pub returns-then-first : goal.returns-then-first
unfolding last_good
returns-then-first c = rw (lt-leb (c.args.first + c.args.m - 1) last_number (omega arith))

pub returns : goal.returns
unfolding last_good
returns c = moved c.args.first c.args.m c.if-first.false
