-- Lists that refusal 5 refuses are refused alike, whatever they hold; a list of too many records is one. Assumes nothing.
use mathlib.Core.Path.{◌≡◌, refl, sym, ap, ◌∙◌}
use mathlib.Core.Bool.{Bool, true, false, true≢false}
use mathlib.Core.List.{List, [], ◌∷◌, ◌++◌}
use Prim.Native.Nat.{ℕ, ◌%◌, ◌<◌}
use native.Mathlib.Omega.{arith}
use lib.Dec.{eqb}
use Rattle.std.specs.Prelude.{Ok, Err}
use lib.ListN.{length}
use Rattle.laws.specs.Within.{within}
use Rattle.laws.specs.Limits.{most_subareas}
use Rattle.laws.proofs.Tests.{both_right, kept}
use Rattle.refusals.specs.declared.Rule.TheVariants.{Subareas}
use Rattle.refusals.specs.Refusals.{Line, none, unless, first_refusal, answer}
use Rattle.refusals.proofs.Orders.{stops, all_pass, both_pass, pass_none, charge_none, refused_answer}
use Rattle.subarea.specs.declared.Setup.{Setup}
use Rattle.subarea.specs.Records.{width, records_in}
use Rattle.checks.specs.Site.{Site, Rows}
use Rattle.checks.specs.Order.{records_good, fore_lines, run_lines}
use Rattle.host.specs.declared.records.Subarea.{Subarea}
use Rattle.host.specs.Flattened.{flat_of}
use Rattle.host.proofs.Handing.{flat_length}

-- no list is refused
pub none_refused : records_good [] ≡ false
unfolding records_good
none_refused = refl

-- the numbers of too many records are
pub many_refused : (ss : List Subarea) → most_subareas < length ss → records_good (flat_of ss) ≡ false
unfolding records_good
many_refused ss h = go (records_good (flat_of ss)) refl
  where
    go : (b : Bool) → records_good (flat_of ss) ≡ b → b ≡ false
    go true e = absurd (omega (arith, h, flat_length ss, (kept 1 (records_in (flat_of ss)) most_subareas (both_right (eqb (length (flat_of ss) % width) 0) (within 1 (records_in (flat_of ss)) most_subareas) e)).high))
    go false e = refl

module _ (g : Setup) (rain p : List ℕ) (l : Rows) where
  -- a site with a list of subareas
  abbrev pub on : List ℕ → Site
  on s = record { setup = g; rain = rain; subareas = s; pond = p }

  -- 1 to 5 refuse a list that 5 refuses
  run_refuses : (s : List ℕ) → records_good s ≡ false → first_refusal (run_lines (on s) l) ≡ none → ⊥
  run_refuses s e q =
      let five = (both_pass (fore_lines g rain l) (unless Subareas (records_good s) ∷ []) (all_pass (run_lines (on s) l) q)).1.0 in
      true≢false (sym (charge_none Subareas (records_good s) 0 five) ∙ e)

  -- and look at no more of it: an order that begins with them refuses two such lists alike
  pub alike : (rest : List ℕ → List Line) (s u : List ℕ) → records_good s ≡ false → records_good u ≡ false
      → first_refusal (run_lines (on s) l ++ rest s) ≡ first_refusal (run_lines (on u) l ++ rest u)
  alike rest s u e f = go (first_refusal (run_lines (on s) l)) refl
    where
      run : run_lines (on s) l ≡ run_lines (on u) l
      run = rw (e, f) refl

      go : (v : Line) → first_refusal (run_lines (on s) l) ≡ v → first_refusal (run_lines (on s) l ++ rest s) ≡ first_refusal (run_lines (on u) l ++ rest u)
      go (Ok w) t = absurd (run_refuses s e t)
      go (Err w) t = sym (stops (run_lines (on s) l) (rest s) (sym t)) ∙ stops (run_lines (on u) l) (rest u) (sym t ∙ ap first_refusal run)

  -- and does refuse them
  pub refuses : (rest : List Line) (s : List ℕ) → records_good s ≡ false → first_refusal (run_lines (on s) l ++ rest) ≡ none → ⊥
  refuses rest s e q = run_refuses s e (pass_none (run_lines (on s) l) (both_pass (run_lines (on s) l) rest (all_pass (run_lines (on s) l ++ rest) q)).0)

-- answers of refusals that are the same are the same
pub answers_alike : {A : Type 0} (v : Line) {w : Line} → (v ≡ none → ⊥) → v ≡ w → (a b : A) → answer v a ≡ answer w b
answers_alike (Ok u) n q a b = absurd (n refl)
answers_alike (Err e) n q a b = refused_answer q b
