-- Every double of an accepted mark is the whole number itself: doubles-exact; and no row number reaches 2^53. Assumes nothing.
use mathlib.Core.Path.{◌≡◌}
use mathlib.Core.List.{List}
use Prim.Native.Nat.{ℕ, ◌+◌, ◌-◌, ◌*◌, ◌/◌, ◌<◌}
use native.Mathlib.Omega.{arith}
use borrow.Author.Tests.{eqb-true}
use lib.Dec.{eqb}
use lib.ListN.{length}
use Rattle.laws.specs.Pick.{pick}
use Rattle.laws.proofs.Tests.{by_test}
use Rattle.pond.proofs.Sums.{stage_most}
use Rattle.rows.specs.Figures.{at, peak_row, row_stage}
use Rattle.refusals.specs.Refusals.{none}
use Rattle.checks.specs.Site.{Rows}
use Rattle.marks.specs.declared.Mark.{Mark}
use Rattle.marks.specs.declared.Mark.TheVariants.{Nothing, Outflow, Peak}
use Rattle.marks.specs.ChartMarks.{double_of, mark_at, point_at, marked_of, mark_refusal, IsWhole, WholeMark, AllWhole}
use Rattle.marks.specs.Needs.{MarkOk}
use Rattle.marks.proofs.Doubles.{double_whole}
use Rattle.marks.proofs.Ready.{mark_ok, flow_exact, asked_ok, point_ok}

module _ (D first : ℕ) (p : List ℕ) (l : Rows) (k : ℕ) (done : mark_refusal D first p l k ≡ none) where
  abbrev os : List ℕ
  os = l.outflow

  abbrev ss : List ℕ
  ss = l.storage

  ready : MarkOk D first p os ss k
  ready = mark_ok D first p l k done

  abbrev flow : ℕ
  flow = at os (k - 1)

  abbrev stage : ℕ
  stage = row_stage (D / 2) p os ss (k - 1)

  whole_flow : IsWhole (double_of flow) flow
  whole_flow = double_whole flow (flow_exact ready.pond (asked_ok ready))

  whole_stage : IsWhole (double_of stage) stage
  whole_stage = double_whole stage (omega (arith, stage_most ready.pond (at ss (k - 1) + D / 2 * flow) (asked_ok ready).within_last))

  whole_mark : WholeMark (mark_at (D / 2) p (peak_row os (length os)) k flow (at ss (k - 1))) flow stage
  unfolding mark_at
  whole_mark =
      by_test (λ (z : Mark). WholeMark z flow stage) (eqb flow 0) Nothing (pick (eqb k (peak_row os (length os))) (Peak (double_of flow) (double_of stage)) (Outflow (double_of flow)))
      (λ t. eqb-true flow 0 t)
      (λ t. by_test (λ (z : Mark). WholeMark z flow stage) (eqb k (peak_row os (length os))) (Peak (double_of flow) (double_of stage)) (Outflow (double_of flow)) (λ u. (whole_flow, whole_stage)) (λ u. whole_flow))

  -- row number first + k - 1, seconds k D, outflow and, at the peak, the stage: each double is that number, and casts back to it
  pub doubles_exact : AllWhole (marked_of D first p os ss k) (first + k - 1) (k * D) flow stage
  unfolding marked_of point_at
  doubles_exact =
      let small = point_ok ready in
      record {
        number = double_whole (first + k - 1) small.number;
        time = double_whole (k * D) small.time;
        flow = whole_flow;
        mark = whole_mark;
      }

  -- accepted: every row's number is below 9007199254740992
  pub row_numbers : (j : ℕ) → j < length l.outflow → first + j < 9007199254740992
  row_numbers j less = omega (arith, ready.last)
