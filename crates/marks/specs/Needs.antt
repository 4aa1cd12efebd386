-- What contracts ask of a mark, and proofs use; no rule of docs/SCOPE.md is here.
use Rattle.std.specs.Prelude.{◌≡◌, Ok, Err, Option, List, ℕ, ◌+◌, ◌-◌, ◌*◌, ◌/◌, ◌≤◌, leb, length, position}
use Rattle.laws.specs.Limits.{most_step, last_number}
use Rattle.pond.specs.Needs.{PondOk}
use Rattle.rows.specs.Needs.{RowsOk}
use Rattle.checks.specs.Site.{Rows, asked}
use Rattle.checks.specs.Needs.{StepOk, LengthsOk}
use Rattle.refusals.specs.Refusals.{number_of}
use Rattle.marks.specs.ChartMarks.{MarkAnswer}

-- every whole number up to this one is a double itself
abbrev pub most_exact : ℕ
most_exact = last_number

-- the first row, from 0, whose outflow is o or more
abbrev pub first_at_least : List ℕ → ℕ → Option ℕ
first_at_least os o = position (λ q. leb o q) os

-- what 1, 2 and 4 leave
pub record MarkReady (D first : ℕ) (l : Rows) : Type 0 where
  pub lengths : LengthsOk l
  pub step : StepOk D
  pub last : first + asked l - 1 ≤ last_number

-- a point whose three numbers are doubles themselves
pub record PointOk (D first : ℕ) (k o : ℕ) : Type 0 where
  pub least : 1 ≤ k
  pub number : first + k - 1 ≤ most_exact
  pub time : k * D ≤ most_exact
  pub flow : o ≤ most_exact

-- what the refusals of a mark leave
pub record MarkOk (D first : ℕ) (p os ss : List ℕ) (k : ℕ) : Type 0 where
  pub pond : PondOk (D / 2) p
  pub rows : RowsOk (D / 2) p os ss
  pub least : 1 ≤ k
  pub most : k ≤ length os
  pub step_most : D ≤ most_step
  pub last : first + length os - 1 ≤ most_exact

-- an answer whose refusal, if it is one, has a number
abbrev pub Numbered : MarkAnswer → Type 0
Numbered (Ok w) = Unit {0}
Numbered (Err v) = number_of v.rule ≡ 0 → ⊥
