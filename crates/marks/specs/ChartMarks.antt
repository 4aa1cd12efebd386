-- docs/SCOPE.md, 'Chart marks' and refusals 17 and 18: a row's mark and point, and what a mark answers.
use Rattle.std.specs.Prelude.{◌≡◌, false, List, [], ◌∷◌, ◌++◌, ℕ, ◌+◌, ◌-◌, ◌*◌, ◌/◌, ◌<◌, length, T, eqb, pos, Float, ⊤, Result, Ok, Err}
use Rattle.std.specs.Float.{binary64}
use Rattle.std.specs.Float.Ieee.{of_int, in_unsigned, to_unsigned}
use Rattle.std.specs.Float.Ieee.Exact.{HasValue}
use Rattle.laws.specs.Pick.{pick}
use Rattle.laws.specs.Within.{within}
use Rattle.pond.specs.PondRows.{stage_at}
use Rattle.rows.specs.Figures.{at, peak_row}
use Rattle.refusals.specs.declared.Rule.{Rule}
use Rattle.refusals.specs.declared.Rule.TheVariants.{LastRow, Row}
use Rattle.refusals.specs.declared.Refusal.{Refusal}
use Rattle.checks.specs.Site.{Rows, asked}
use Rattle.refusals.specs.Refusals.{Line, unless, first_refusal, answer, after}
use Rattle.checks.specs.Order.{frame_lines, last_good, pond_lines, forged_line}
use Rattle.marks.specs.declared.Point.{Point}
use Rattle.marks.specs.declared.Mark.{Mark}
use Rattle.marks.specs.declared.Mark.TheVariants.{Nothing, Outflow, Peak}
use Rattle.marks.specs.declared.Marked.{Marked}

-- the double of a whole number, by IEEE 754
abbrev pub double_of : ℕ → Float
double_of n = of_int binary64 (pos n)

-- the mark of row k with outflow o and storage s, first rule that fits: none when o is 0; a peak with outflow and stage for the peak row; else an outflow
unfoldable pub mark_at : ℕ → List ℕ → ℕ → ℕ → ℕ → ℕ → Mark
mark_at h p peak k o s =
    pick (eqb o 0) Nothing
    (pick (eqb k peak) (Peak (double_of o) (double_of (stage_at h p (s + h * o))))
    (Outflow (double_of o)))

-- the point of row k with outflow o: row number first + k - 1, seconds from the start k D, and outflow (k is 1 or above: mark-ok)
unfoldable pub point_at : ℕ → ℕ → ℕ → ℕ → Point
point_at D first k o = record { row = double_of (first + k - 1); seconds = double_of (k * D); outflow = double_of o }

-- the mark and the point of row k, from 1 (mark-ok); the peak row is the first with the greatest outflow of all
unfoldable pub marked_of : ℕ → ℕ → List ℕ → List ℕ → List ℕ → ℕ → Marked
marked_of D first p os ss k =
    record {
      mark = mark_at (D / 2) p (peak_row os (length os)) k (at os (k - 1)) (at ss (k - 1));
      point = point_at D first k (at os (k - 1));
    }

-- 1, 2 and 4
abbrev pub mark_lines : ℕ → ℕ → Rows → List Line
mark_lines D first l = frame_lines D l ++ (unless LastRow (last_good first (asked l)) ∷ [])

-- 18: the row asked is 1 to m; 17: all rows, whatever row is asked
abbrev pub asked_lines : ℕ → List ℕ → Rows → ℕ → List Line
asked_lines h p l k =
    unless Row (within 1 k (length l.outflow))
    ∷ forged_line h p l
    ∷ []

-- docs/SCOPE.md's order of a mark, line by line: 1, 2, 4, 12, 13, 18, 17
abbrev pub mark_order : ℕ → ℕ → List ℕ → Rows → ℕ → List Line
mark_order D first p l k = mark_lines D first l ++ pond_lines (D / 2) p ++ asked_lines (D / 2) p l k

-- the first refusal of a mark
unfoldable pub mark_refusal : ℕ → ℕ → List ℕ → Rows → ℕ → Line
mark_refusal D first p l k = first_refusal (mark_order D first p l k)

-- what a mark answers; of the inflow list only the length is read
abbrev pub MarkAnswer : Type 0
MarkAnswer = Result Marked (Refusal Rule)

unfoldable pub mark_answer : ℕ → ℕ → List ℕ → Rows → ℕ → MarkAnswer
mark_answer D first p l k = answer (mark_refusal D first p l k) (marked_of D first p l.outflow l.storage k)

-- the kind of a mark: 0 none, 1 an outflow, 2 a peak
abbrev pub kind_of : Mark → ℕ
kind_of Nothing = 0
kind_of (Outflow o) = 1
kind_of (Peak o s) = 2

-- its outflow and its stage, 0 where it has none
abbrev pub flow_of : Mark → Float
flow_of Nothing = double_of 0
flow_of (Outflow o) = o
flow_of (Peak o s) = o

abbrev pub stage_of : Mark → Float
stage_of Nothing = double_of 0
stage_of (Outflow o) = double_of 0
stage_of (Peak o s) = s

-- the five values: the mark's outflow and stage, then the point's row number, seconds and outflow; and those of a refused mark
abbrev pub doubles_of : Marked → List Float
doubles_of w = flow_of w.mark ∷ stage_of w.mark ∷ w.point.row ∷ w.point.seconds ∷ w.point.outflow ∷ []

abbrev pub no_doubles : List Float
no_doubles = double_of 0 ∷ double_of 0 ∷ double_of 0 ∷ double_of 0 ∷ double_of 0 ∷ []

-- the kind and the values of a mark: every one 0 when something is refused
unfoldable pub mark_kind : ℕ → ℕ → List ℕ → Rows → ℕ → ℕ
mark_kind D first p l k = after (mark_refusal D first p l k) (kind_of (marked_of D first p l.outflow l.storage k).mark) 0

unfoldable pub mark_values : ℕ → ℕ → List ℕ → Rows → ℕ → List Float
mark_values D first p l k = after (mark_refusal D first p l k) (doubles_of (marked_of D first p l.outflow l.storage k)) no_doubles

-- the refusal, the kind and the values that an answer has: none when done, kind and values 0 when refused
abbrev pub mark_refusal_in : {R : Type 0} → Result Marked (Refusal R) → Result ⊤ (Refusal R)
mark_refusal_in (Ok w) = Ok tt
mark_refusal_in (Err v) = Err v

abbrev pub mark_kind_in : {R : Type 0} → Result Marked (Refusal R) → ℕ
mark_kind_in (Ok w) = kind_of w.mark
mark_kind_in (Err v) = 0

abbrev pub mark_values_in : {R : Type 0} → Result Marked (Refusal R) → List Float
mark_values_in (Ok w) = doubles_of w
mark_values_in (Err v) = no_doubles

-- a double that is the whole number n itself: n is below 2^53, the double's value is n over 1 with no sign, it passes the test of a cast to 64 bits, and the cast gives n again
pub record IsWhole (x : Float) (n : ℕ) : Type 0 where
  pub small : n < 9007199254740992
  pub value : HasValue x false n 1
  pub fits : T (in_unsigned binary64 64 x)
  pub back : to_unsigned 64 x ≡ n

-- a mark whose doubles are the whole outflow o and the whole stage s
abbrev pub WholeMark : Mark → ℕ → ℕ → Type 0
WholeMark Nothing o s = o ≡ 0
WholeMark (Outflow x) o s = IsWhole x o
WholeMark (Peak x y) o s = IsWhole x o × IsWhole y s

-- a mark and its point, all whole: row number n, seconds t, outflow o and stage s
pub record AllWhole (w : Marked) (n t o s : ℕ) : Type 0 where
  pub number : IsWhole w.point.row n
  pub time : IsWhole w.point.seconds t
  pub flow : IsWhole w.point.outflow o
  pub mark : WholeMark w.mark o s
