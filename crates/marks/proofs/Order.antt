-- The refusal of a mark is the first line of `mark_order`, docs/SCOPE.md's order, that refuses; its answer is told by its number, place, kind and values. Assumes nothing.
use mathlib.Core.Path.{◌≡◌, refl, sym, ap, ◌∙◌}
use mathlib.Core.List.{List, [], ◌∷◌}
use Prim.Native.Nat.{ℕ, ◌-◌}
use native.Mathlib.Omega.{arith}
use lib.ListN.{get_or}
use lib.Ieee.{Float}
use Rattle.std.specs.Prelude.{Ok, Err}
use Rattle.refusals.specs.declared.Rule.{Rule}
use Rattle.refusals.specs.declared.Rule.TheVariants.{Lengths, Step, Rain, LastRow, Subareas, Patches, Segments, Area, Concentration, Coarse, Weights, PondTable, PondHeld, Over, Place, InflowRow, Forged, Row, Rise, SheetRule}
use Rattle.refusals.specs.Refusals.{Line, number_of, told, none, answer, after, First}
use Rattle.refusals.proofs.Orders.{refused, told_none, first_there}
use Rattle.checks.specs.Site.{Rows}
use Rattle.marks.specs.declared.Mark.{Mark}
use Rattle.marks.specs.declared.Mark.TheVariants.{Nothing, Outflow, Peak}
use Rattle.marks.specs.declared.Marked.{Marked}
use Rattle.marks.specs.ChartMarks.{double_of, mark_order, mark_refusal, MarkAnswer, mark_answer, kind_of, flow_of, stage_of, doubles_of, no_doubles, mark_kind, mark_values, mark_refusal_in, mark_kind_in, mark_values_in}
use Rattle.marks.specs.Needs.{Numbered}

-- what is read of an answer is its refusal, or what is done where there is none
refusal_read : (v : Line) (w : Marked) → mark_refusal_in (answer v w) ≡ v
refusal_read (Ok u) w = refl
refusal_read (Err e) w = refl

kind_read : (v : Line) (w : Marked) → mark_kind_in (answer v w) ≡ after v (kind_of w.mark) 0
kind_read (Ok u) w = refl
kind_read (Err e) w = refl

values_read : (v : Line) (w : Marked) → mark_values_in (answer v w) ≡ after v (doubles_of w) no_doubles
values_read (Ok u) w = refl
values_read (Err e) w = refl

-- a refusal has a number above 0
numbered : (v : Line) (w : Marked) → Numbered (answer v w)
numbered (Ok u) w = tt
numbered (Err e) w = λ q. refused (told_none (Err e) q)

module _ (D first : ℕ) (p : List ℕ) (l : Rows) (k : ℕ) where
  -- refused: the refusal stands in the list of docs/SCOPE.md, and every line before it passes
  pub mark_order_lem : (mark_refusal D first p l k ≡ none → ⊥) → First (mark_order D first p l k) (mark_refusal D first p l k)
  unfolding mark_refusal
  mark_order_lem n = first_there (mark_order D first p l k) n

  -- an answer's refusal is that refusal, or none when done
  pub mark_refusal_lem : mark_refusal_in (mark_answer D first p l k) ≡ mark_refusal D first p l k
  unfolding mark_answer
  mark_refusal_lem = refusal_read (mark_refusal D first p l k) _

  -- its kind and its values are the mark's, every one 0 when refused
  pub mark_kind_lem : mark_kind_in (mark_answer D first p l k) ≡ mark_kind D first p l k
  unfolding mark_answer mark_kind
  mark_kind_lem = kind_read (mark_refusal D first p l k) _

  pub mark_values_lem : mark_values_in (mark_answer D first p l k) ≡ mark_values D first p l k
  unfolding mark_answer mark_values
  mark_values_lem = values_read (mark_refusal D first p l k) _

  -- and where it is refused, there is a number
  pub mark_numbered : Numbered (mark_answer D first p l k)
  unfolding mark_answer
  mark_numbered = numbered (mark_refusal D first p l k) _

-- the rule that has a number
abbrev rules : List Rule
rules = Lengths ∷ Step ∷ Rain ∷ LastRow ∷ Subareas ∷ Patches ∷ Segments ∷ Area ∷ Concentration ∷ Coarse ∷ Weights ∷ PondTable ∷ PondHeld ∷ Over ∷ Place ∷ InflowRow ∷ Forged ∷ Row ∷ Rise ∷ SheetRule ∷ []

rule_back : (r : Rule) → get_or rules (number_of r - 1) Lengths ≡ r
rule_back Lengths = refl
rule_back Step = refl
rule_back Rain = refl
rule_back LastRow = refl
rule_back Subareas = refl
rule_back Patches = refl
rule_back Segments = refl
rule_back Area = refl
rule_back Concentration = refl
rule_back Coarse = refl
rule_back Weights = refl
rule_back PondTable = refl
rule_back PondHeld = refl
rule_back Over = refl
rule_back Place = refl
rule_back InflowRow = refl
rule_back Forged = refl
rule_back Row = refl
rule_back Rise = refl
rule_back SheetRule = refl

-- so its number tells a rule
rule_told : (r q : Rule) → number_of r ≡ number_of q → r ≡ q
rule_told r q e = sym (rule_back r) ∙ ap (λ (n : ℕ). get_or rules (n - 1) Lengths) e ∙ rule_back q

-- kind, outflow and stage tell the mark
mark_told : (a b : Mark) → kind_of a ≡ kind_of b → flow_of a ≡ flow_of b → stage_of a ≡ stage_of b → a ≡ b
mark_told Nothing Nothing k o s = refl
mark_told Nothing (Outflow o') k o s = absurd (omega arith)
mark_told Nothing (Peak o' s') k o s = absurd (omega arith)
mark_told (Outflow o') Nothing k o s = absurd (omega arith)
mark_told (Outflow x) (Outflow y) k o s = ap Outflow o
mark_told (Outflow x) (Peak o' s') k o s = absurd (omega arith)
mark_told (Peak x y) Nothing k o s = absurd (omega arith)
mark_told (Peak x y) (Outflow o') k o s = absurd (omega arith)
mark_told (Peak x y) (Peak z w) k o s = λ i. Peak (o i) (s i)

-- the value at a place
abbrev value : ℕ → List Float → Float
value i l = get_or l i (double_of 0)

marked_told : (v w : Marked) → kind_of v.mark ≡ kind_of w.mark → doubles_of v ≡ doubles_of w → v ≡ w
marked_told v w k e =
    λ i. record {
      mark = mark_told v.mark w.mark k (ap (value 0) e) (ap (value 1) e) i;
      point = record { row = ap (value 2) e i; seconds = ap (value 3) e i; outflow = ap (value 4) e i };
    }

-- number, place, kind and values tell the answer: two answers that agree in them are the same
pub answer_told : (a b : MarkAnswer) → Numbered a → Numbered b → told (mark_refusal_in a) ≡ told (mark_refusal_in b) → mark_kind_in a ≡ mark_kind_in b → mark_values_in a ≡ mark_values_in b → a ≡ b
answer_told (Err v) (Err w) s t e k u = λ i. Err (record { rule = rule_told v.rule w.rule (ap (λ z. z.0) e) i; place = ap (λ z. z.1) e i })
answer_told (Err v) (Ok w) s t e k u = absurd (s (ap (λ z. z.0) e))
answer_told (Ok v) (Err w) s t e k u = absurd (t (sym (ap (λ z. z.0) e)))
answer_told (Ok v) (Ok w) s t e k u = ap Ok (marked_told v w k u)
