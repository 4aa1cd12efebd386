-- Both engines of the inflow rows beside each other (Q-6): what each answers, and the first row in which they differ.
use Rattle.std.specs.Prelude.{Bool, ◌&&◌, List, ℕ, ◌+◌, min, length, get_or, eqb, Option, None, Some, is_none}
use Rattle.laws.specs.Pick.{pick}
use Rattle.laws.specs.Scan.{scan}
use Rattle.refusals.specs.declared.Rule.{Rule}
use Rattle.refusals.specs.Refusals.{number_of, told_by}
use Rattle.checks.specs.Site.{Site, Rows}
use Rattle.inflow.specs.Inflow.{inflow_refusal, inflow_after}
use Rattle.textbook.specs.Textbook.{textbook_refusal, textbook_after}
use Rattle.engines.specs.declared.Verdict.{Verdict}

-- the rows, from the first on, that are the same in both lists
unfoldable pub alike_in : List ℕ → List ℕ → ℕ
alike_in a b = scan (λ i. eqb (get_or a i 0) (get_or b i 0)) (min (length a) (length b)) 0

-- the first row, from 1, that differs, or that only one list has; none where the lists are the same
unfoldable pub first_differing : List ℕ → List ℕ → Option ℕ
first_differing a b = pick (eqb (alike_in a b) (length a) && eqb (alike_in a b) (length b)) None (Some (alike_in a b + 1))

-- both engines on one site, each lent its own rows
unfoldable pub verdict_of : Site → Rows → Rows → Verdict Rule
verdict_of x l m =
    record { fast = inflow_refusal x l; slow = textbook_refusal x m; row = first_differing (inflow_after x l) (textbook_after x m) }

-- they agree: the same refusal, by number and place, and the same rows. A rule r is told by `number r`
abbrev pub agrees_by : {R : Type 0} → (R → ℕ) → Verdict R → Bool
agrees_by number v =
    eqb (told_by number v.fast).0 (told_by number v.slow).0 && (eqb (told_by number v.fast).1 (told_by number v.slow).1 && is_none v.row)

-- of a verdict on both engines: by their rules' numbers
unfoldable pub agrees : Verdict Rule → Bool
agrees = agrees_by number_of
