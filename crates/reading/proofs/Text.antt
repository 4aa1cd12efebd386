-- What a text of fixed room holds after it is written to. Assumes nothing.
use mathlib.Core.Path.{◌≡◌, subst}
use mathlib.Core.List.{List, [], ◌++◌}
use Prim.Native.Nat.{ℕ}
use Rattle.std.specs.Prelude.{Option, IfSome, None, Some}
use Rattle.std.specs.Fmt.{WritesText}
use Rattle.std.proofs.lemmas.Fmt.{contents_after_writes}
use Rattle.arrayvec.specs.ArrayString.{ArrayString}

abbrev pub takes : ArrayString → List ℕ → ArrayString → Type 0
takes s bytes t = t.bytes ≡ s.bytes ++ bytes

pub held : (s : ArrayString) (o : Option (List ℕ)) (t : ArrayString) → s.bytes ≡ [] → WritesText takes s o t → IfSome o (λ bs. t.bytes ≡ bs)
held s None t e w = tt
held s (Some bs) t e w = subst (λ z. t.bytes ≡ z ++ bs) e (contents_after_writes takes (λ x. x.bytes) (λ x xs y h. h) s bs t w)
