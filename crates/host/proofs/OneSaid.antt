-- What it is for a promise to allow one answer only, and one later content of what it is lent, over its clauses in every model of the
-- logic: two answers said together say that they are the same. Assumes nothing.
use mathlib.Core.Path.{◌≡◌}
use seplogic.Ra.Ura.{Ura}
use base.Logic.{SProp, ent, sep, id⊢, via, fst∗, snd∗}
use prog.Memory.{Memory}
use prog.Routine.{Routine}
use types.Logic.{Logic}
use contract.Lifetimes.{Lfts}
use contract.Monad.{Fun, fact, fact_mono, fact_use}
use denote.Triple.Entry.{Args, Res}
use denote.Triple.Clauses.{Ended, Clauses, AtExit}

abbrev pub OneSaid : (T : Ended) → ((M : Type 1) (𝓤 : Ura M) → (𝓛 : Logic 𝓤) → (Memory → SProp 𝓤) → (Routine → Fun 𝓤) → Clauses 𝓤 T)
    → {L : Type 0} → ((κs : Lfts T.signature.lifetimes) → AtExit T κs → L) → Type 2
OneSaid T clauses later =
    (M : Type 1) (𝓤 : Ura M) (𝓛 : Logic 𝓤) (mem : Memory → SProp 𝓤) (run : Routine → Fun 𝓤) (κs : Lfts T.signature.lifetimes) (a : Args T.signature κs)
    (g : (clauses M 𝓤 𝓛 mem run κs a).ghost) (x y : Res T.signature κs) (s t : AtExit T κs)
    → ent 𝓤 (sep 𝓤 ((clauses M 𝓤 𝓛 mem run κs a).ensures g x s) ((clauses M 𝓤 𝓛 mem run κs a).ensures g y t)) (fact 𝓤 ((x ≡ y) × (later κs s ≡ later κs t)))

module _ {M : Type 1} (𝓤 : Ura M) where
  -- two facts said together
  pub together : {P Q : SProp 𝓤} (φ ψ : Type 0) → ent 𝓤 P (fact 𝓤 φ) → ent 𝓤 Q (fact 𝓤 ψ) → ent 𝓤 (sep 𝓤 P Q) (fact 𝓤 (φ × ψ))
  together {P} {Q} φ ψ h k =
      fact_use 𝓤 φ (via 𝓤 P (fst∗ 𝓤 P Q) h) (λ x. via 𝓤 Q (snd∗ 𝓤 P Q) (via 𝓤 (fact 𝓤 ψ) k (fact_mono 𝓤 ψ (φ × ψ) (λ y. (x, y)))))

  -- a fact, and others
  pub also : {Q : SProp 𝓤} (φ ψ : Type 0) → ent 𝓤 Q (fact 𝓤 ψ) → ent 𝓤 (sep 𝓤 (fact 𝓤 φ) Q) (fact 𝓤 (φ × ψ))
  also φ ψ k = together φ ψ (id⊢ 𝓤 (fact 𝓤 φ)) k

  -- what follows from two things said together
  pub follows : {P Q : SProp 𝓤} (φ ψ χ : Type 0) → ent 𝓤 P (fact 𝓤 φ) → ent 𝓤 Q (fact 𝓤 ψ) → (φ → ψ → χ) → ent 𝓤 (sep 𝓤 P Q) (fact 𝓤 χ)
  follows φ ψ χ h k f = via 𝓤 (fact 𝓤 (φ × ψ)) (together φ ψ h k) (fact_mono 𝓤 (φ × ψ) χ (λ p. f p.0 p.1))
