-- Laws of refusals in order. Assumes nothing.
use mathlib.Core.Path.{◌≡◌, refl, sym, ap}
use mathlib.Core.Bool.{Bool, true, false, true≢false}
use mathlib.Core.List.{List, [], ◌∷◌, ◌++◌}
use Prim.Native.Nat.{ℕ, ◌≤◌}
use native.Mathlib.Omega.{arith}
use borrow.Author.Tests.{ltb-false}
use lib.Dec.{ltb}
use Rattle.std.specs.Prelude.{Ok, Err, Option, None, Some}
use Rattle.std.proofs.lemmas.Option.{none-some}
use Rattle.laws.specs.Pick.{pick}
use Rattle.refusals.specs.declared.Rule.{Rule}
use Rattle.refusals.specs.declared.Rule.TheVariants.{Lengths, Step, Rain, LastRow, Subareas, Patches, Segments, Area, Concentration, Coarse, Weights, PondTable, PondHeld, Over, Place, InflowRow, Forged, Row, Rise, SheetRule}
use Rattle.refusals.specs.declared.Refusal.{Refusal}
use Rattle.refusals.specs.Refusals.{Line, passes, number_of, told, none, stopped, or_else, charge, first_of, first_at, first_refusal, AllPass, First, answer, after}

-- a line that refuses is no line that does not
pub refused : {e : Refusal Rule} → Err e ≡ none → ⊥
refused q = true≢false (sym (ap passes q))

-- number 0 is told of no refusal alone
rule_some : (r : Rule) → number_of r ≡ 0 → ⊥
rule_some Lengths e = omega (arith, e)
rule_some Step e = omega (arith, e)
rule_some Rain e = omega (arith, e)
rule_some LastRow e = omega (arith, e)
rule_some Subareas e = omega (arith, e)
rule_some Patches e = omega (arith, e)
rule_some Segments e = omega (arith, e)
rule_some Area e = omega (arith, e)
rule_some Concentration e = omega (arith, e)
rule_some Coarse e = omega (arith, e)
rule_some Weights e = omega (arith, e)
rule_some PondTable e = omega (arith, e)
rule_some PondHeld e = omega (arith, e)
rule_some Over e = omega (arith, e)
rule_some Place e = omega (arith, e)
rule_some InflowRow e = omega (arith, e)
rule_some Forged e = omega (arith, e)
rule_some Row e = omega (arith, e)
rule_some Rise e = omega (arith, e)
rule_some SheetRule e = omega (arith, e)

pub told_none : (v : Line) → (told v).0 ≡ 0 → v ≡ none
told_none (Ok u) e = refl
told_none (Err r) e = absurd (rule_some r.rule e)

-- a front that refuses decides
pub stops : (l k : List Line) {e : Refusal Rule} → Err e ≡ first_refusal l → Err e ≡ first_refusal (l ++ k)
stops [] k q = absurd (refused q)
stops (Ok u ∷ ls) k q = stops ls k q
stops (Err f ∷ ls) k q = q

-- one that does not leaves it to what comes after
pub goes_on : (l k : List Line) → none ≡ first_refusal l → first_refusal k ≡ first_refusal (l ++ k)
goes_on [] k q = refl
goes_on (Ok u ∷ ls) k q = goes_on ls k q
goes_on (Err f ∷ ls) k q = absurd (refused (sym q))

-- a list of lines, then a group after it
pub appended : (l k : List Line) → or_else (first_refusal l) (first_refusal k) ≡ first_refusal (l ++ k)
appended [] k = refl
appended (Ok u ∷ ls) k = appended ls k
appended (Err f ∷ ls) k = refl

-- a list that refuses nothing is one
pub all_pass : (l : List Line) → first_refusal l ≡ none → AllPass l
all_pass [] e = tt
all_pass (Ok u ∷ ls) e = (refl, all_pass ls e)
all_pass (Err f ∷ ls) e = absurd (refused e)

-- so is its front, and what comes after
pub both_pass : (l k : List Line) → AllPass (l ++ k) → AllPass l × AllPass k
both_pass [] k p = (tt, p)
both_pass (v ∷ vs) k p = let r = both_pass vs k p.1 in ((p.0, r.0), r.1)

-- two such lists, one after the other, are one
pub pass_both : (l k : List Line) → AllPass l → AllPass k → AllPass (l ++ k)
pass_both [] k p q = q
pass_both (v ∷ vs) k p q = (p.0, pass_both vs k p.1 q)

-- and one refuses nothing
pub pass_none : (l : List Line) → AllPass l → first_refusal l ≡ none
pass_none [] p = refl
pass_none (Ok u ∷ ls) p = pass_none ls p.1
pass_none (Err f ∷ ls) p = absurd (refused p.0)

-- the first that refuses stands in the list, after lines that pass
pub first_there : (l : List Line) → (first_refusal l ≡ none → ⊥) → First l (first_refusal l)
first_there [] n = absurd (n refl)
first_there (Ok u ∷ ls) n =
    let r = first_there ls n in
    record { before_it = none ∷ r.before_it; after_it = r.after_it; stands = ap (λ (k : List Line). none ∷ k) r.stands; before_pass = (refl, r.before_pass) }
first_there (Err f ∷ ls) n = record { before_it = []; after_it = ls; stands = refl; before_pass = tt }

-- a test that refuses nothing holds
pub charge_none : (r : Rule) (b : Bool) (k : ℕ) → charge r b k ≡ none → b ≡ true
charge_none r true k e = refl
charge_none r false k e = absurd (refused e)

-- a search that refuses nothing found nothing
pub first_none : (r : Rule) (at : Option ℕ) → first_of r at ≡ none → at ≡ None
first_none r None e = refl
first_none r (Some i) e = absurd (refused e)

pub first_at_none : (r : Rule) (at : Option ℕ) → first_at r at ≡ none → at ≡ None
first_at_none r None e = refl
first_at_none r (Some i) e = absurd (refused e)

-- one that gives the number of places for none ran to the end
pub stopped_none : (at many : ℕ) → stopped at many ≡ None → many ≤ at
stopped_none at many e = go (ltb at many) refl e
  where
    go : (b : Bool) → ltb at many ≡ b → pick b (Some at) None ≡ None → many ≤ at
    go true t q = absurd (none-some at (sym q))
    go false t q = ltb-false at many t

-- lines that all pass leave it to what comes after
pub past : (l k : List Line) → AllPass l → first_refusal k ≡ first_refusal (l ++ k)
past l k p = goes_on l k (sym (pass_none l p))

-- a line alone is its list's first refusal
pub alone : (v : Line) → first_refusal (v ∷ []) ≡ v
alone (Ok u) = refl
alone (Err f) = refl

-- a line that is none may go
pub skipped : (l k : List Line) → first_refusal (l ++ (none ∷ k)) ≡ first_refusal (l ++ k)
skipped [] k = refl
skipped (Ok u ∷ ls) k = skipped ls k
skipped (Err f ∷ ls) k = refl

-- its first refusal is its last line
pub last_is : (l : List Line) (w : Line) → first_refusal (l ++ (w ∷ [])) ≡ none → first_refusal (l ++ (w ∷ [])) ≡ w
last_is [] (Ok u) e = refl
last_is [] (Err f) e = refl
last_is (Ok u ∷ ls) w e = last_is ls w e
last_is (Err f ∷ ls) w e = absurd (refused e)

-- nothing is refused: what is new stands
pub none_new : {A : Type 0} (v : Line) → v ≡ none → (new old : A) → new ≡ after v new old
none_new (Ok u) e new old = refl
none_new (Err f) e new old = absurd (refused e)

-- something is: it is as it was
pub some_old : {A : Type 0} (v : Line) → (v ≡ none → ⊥) → (new old : A) → old ≡ after v new old
some_old (Ok u) n new old = absurd (n refl)
some_old (Err f) n new old = refl

-- and as a function's `?` leaves either: a refusal is told, and what was stays
pub refused_answer : {A : Type 0} {v : Line} {e : Refusal Rule} → Err e ≡ v → (a : A) → Err e ≡ answer v a
refused_answer q a = ap (λ (w : Line). answer w a) q

pub refused_old : {A : Type 0} {v : Line} {e : Refusal Rule} → Err e ≡ v → (new old : A) → old ≡ after v new old
refused_old q new old = ap (λ (w : Line). after w new old) q

-- none leaves the value, and what is new
pub passed_answer : {A : Type 0} {v : Line} → none ≡ v → (a : A) → Ok a ≡ answer v a
passed_answer q a = ap (λ (w : Line). answer w a) q

pub passed_new : {A : Type 0} {v : Line} → none ≡ v → (new old : A) → new ≡ after v new old
passed_new q new old = ap (λ (w : Line). after w new old) q
