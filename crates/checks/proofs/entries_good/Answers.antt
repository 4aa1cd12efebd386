-- `checks::entries_good` meets its contract. Assumes nothing.
use mathlib.Core.Path.{◌≡◌}
use Prim.Native.Nat.{ℕ, ◌+◌, ◌-◌, ◌≤◌}
use native.Mathlib.Omega.{arith}
use borrow.Author.Tests.{le-leb, lt-leb}
use lib.Dec.{leb}
use Rattle.laws.proofs.Tests.{leb_same}
use Rattle.checks.proofs.entries_good.Goals as goal

-- a difference held against m is the sum held against m + 1
moved : (n m : ℕ) → 2 ≤ n → leb (n - 1) m ≡ leb n (m + 1)
moved n m l = leb_same (n - 1) m n (m + 1) (λ h. omega (arith, h)) (λ h. omega (arith, h, l))

pub returns-then-entries-lt2 : goal.returns-then-entries-lt2
returns-then-entries-lt2 c = rw (lt-leb 2 c.args.entries c.if-entries-lt2.true)

pub returns : goal.returns
returns c =
    let s = c.args in
    rw (le-leb 2 s.entries c.if-entries-lt2.false) (moved s.entries s.m c.if-entries-lt2.false)
