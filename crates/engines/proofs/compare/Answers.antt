-- `engines::compare` meets its contract. Assumes nothing.
use mathlib.Core.Path.{◌≡◌}
use mathlib.Core.List.{List}
use Prim.Native.Nat.{ℕ}
use Rattle.std.specs.Prelude.{Option}
use Rattle.refusals.specs.declared.Rule.{Rule}
use Rattle.refusals.specs.Refusals.{Line}
use Rattle.engines.specs.declared.Verdict.{Verdict}
use Rattle.engines.specs.Compared.{first_differing, verdict_of}
use Rattle.engines.proofs.compare.Goals as goal

abbrev verdict : Line → Line → Option ℕ → Verdict Rule
verdict fast slow row = record { fast = fast; slow = slow; row = row }

-- a verdict, from what it is made of
made : {a b c d : Line} {i : Option ℕ} {u v w z : List ℕ} → a ≡ b → c ≡ d → i ≡ first_differing u v → u ≡ w → v ≡ z → verdict a c i ≡ verdict b d (first_differing w z)
made e f g p q = rw (e, f, g, p, q)

pub returns : goal.returns
unfolding verdict_of
returns c =
    let fast = c.run-first.ensures in
    let slow = c.run-second.ensures in
    record { value = made fast.value slow.value c.first_differing-row.ensures fast.rows_after slow.rows_after; fast_after = fast.rows_after; slow_after = slow.rows_after }
