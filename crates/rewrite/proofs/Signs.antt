-- The change of a figure, new less old: right at zero and on both sides. Assumes nothing.
use mathlib.Core.Path.{◌≡◌, ap, ◌∙◌}
use mathlib.Core.Bool.{Bool, true, false, cond}
use Prim.Native.Nat.{ℕ, zero, suc, ◌+◌, ◌-◌, ◌≤◌, ◌<◌}
use native.Mathlib.Omega.{arith}
use borrow.Author.Tests.{lt-ltb, le-ltb}
use lib.Dec.{ltb}
use lib.IntN.{ℤ, pos, negsuc, ◌-ℤ◌}
use lib.Signed.{mag}
use mir.Syntax.{w64}
use mir.Val.{SFits}
use Rattle.rewrite.specs.Rewriting.{change}

-- a difference of two figures, each at most 10^18, fits 64 bits with its sign
either : (t : Bool) (x y : ℤ) (n : ℕ) → mag x < n → mag y < n → mag (cond t x y) < n
either true x y n h k = h
either false x y n h k = k

mag_sub : (a b k n : ℕ) → a ≤ k → b ≤ k → k < n → mag (pos a -ℤ pos b) < n
mag_sub a zero k n ha hb h = omega arith
mag_sub a (suc b) k n ha hb h = either (ltb a (suc b)) (negsuc (suc b - suc a)) (pos (a - suc b)) n (omega arith) (omega arith)

pub differ : (new old : ℕ) → new ≤ 1000000000000000000 → old ≤ 1000000000000000000 → SFits w64 (change new old)
differ new old hn ho = record { sfits = mag_sub new old 1000000000000000000 9223372036854775808 hn ho (omega arith) }

-- no less than it was: what it grew by
pub change_up : (new old : ℕ) → old ≤ new → change new old ≡ pos (new - old)
change_up new zero l = let e : new + 0 ≡ new - 0 = omega arith in ap pos e
change_up new (suc old) l = rw (le-ltb new (suc old) l)

-- less than it was: what it fell by, below zero (negsuc n is -(n + 1))
pub change_down : (new old : ℕ) → new < old → change new old ≡ negsuc (old - new - 1)
change_down new zero l = absurd (omega arith)
change_down new (suc old) l = let e : suc old - suc new ≡ suc old - new - 1 = omega arith in rw (lt-ltb new (suc old) l) (ap negsuc e)

-- the same: zero
pub change_none : (n : ℕ) → change n n ≡ pos 0
change_none n = let e : n - n ≡ 0 = omega arith in change_up n n (omega arith) ∙ ap pos e
