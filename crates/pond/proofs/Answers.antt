-- Each promise of a public function allows one answer. Assumes nothing.
use mathlib.Core.Path.{◌≡◌, ap}
use mathlib.Core.List.{List}
use Prim.Native.Nat.{ℕ}
use Rattle.std.specs.Prelude.{Option, Result, Ok, Err, IfOk}
use Rattle.std.proofs.lemmas.Option.{none-some, same_Some}
use Rattle.laws.proofs.OneAnswer.{OneAnswer, OneReading, same}
use Rattle.pond.specs.declared.Table.{Table}
use Rattle.pond.specs.declared.Pond.{Pond}
use Rattle.pond.specs.PondRows.{place_of}
use Rattle.pond.proofs.Table.new.Kinds as table-new-kinds
use Rattle.pond.proofs.Table.new.Reads as table-new-reads
use Rattle.pond.proofs.Table.check.Kinds as table-check-kinds
use Rattle.pond.proofs.Table.check.Reads as table-check-reads
use Rattle.pond.proofs.Pond.check.Kinds as pond-check-kinds
use Rattle.pond.proofs.Pond.check.Reads as pond-check-reads
use Rattle.pond.proofs.Table.rows.Kinds as rows-kinds
use Rattle.pond.proofs.Table.rows.Reads as rows-reads
use Rattle.pond.proofs.Pond.new.Kinds as pond-new-kinds
use Rattle.pond.proofs.Pond.new.Reads as pond-new-reads
use Rattle.pond.proofs.Pond.sum_at.Kinds as sum-at-kinds
use Rattle.pond.proofs.Pond.sum_at.Reads as sum-at-reads
use Rattle.pond.proofs.Pond.last_sum.Kinds as last-sum-kinds
use Rattle.pond.proofs.Pond.last_sum.Reads as last-sum-reads
use Rattle.pond.proofs.Table.last_discharge.Kinds as last-discharge-kinds
use Rattle.pond.proofs.Table.last_discharge.Reads as last-discharge-reads
use Rattle.pond.proofs.Pond.lower.Kinds as lower-kinds
use Rattle.pond.proofs.Pond.lower.Reads as lower-reads
use Rattle.pond.proofs.Pond.discharge_at.Kinds as discharge-at-kinds
use Rattle.pond.proofs.Pond.discharge_at.Reads as discharge-at-reads
use Rattle.pond.proofs.Pond.stage_at.Kinds as stage-at-kinds
use Rattle.pond.proofs.Pond.stage_at.Reads as stage-at-reads
use Rattle.pond.proofs.State.arrive.Kinds as arrive-kinds
use Rattle.pond.proofs.State.arrive.Reads as arrive-reads
use Rattle.pond.proofs.Pond.settle.Kinds as settle-kinds
use Rattle.pond.proofs.Pond.settle.Reads as settle-reads
use Rattle.pond.proofs.count_good.Kinds as count-good-kinds
use Rattle.pond.proofs.count_good.Reads as count-good-reads
use Rattle.pond.proofs.first_bad.Kinds as first-bad-kinds
use Rattle.pond.proofs.first_bad.Reads as first-bad-reads
use Rattle.pond.proofs.Table.first_short.Kinds as first-short-kinds
use Rattle.pond.proofs.Table.first_short.Reads as first-short-reads

-- what a caller reads of a table and of a pond
abbrev numbers : Table → List ℕ
numbers t = t.numbers.now

abbrev numbers_of : Pond → List ℕ × ℕ
numbers_of v = (numbers v.table, v.half)

-- what a caller reads of an answer that holds numbers or the place that they are refused at
abbrev told : {A B : Type 0} → (A → B) → Result A ℕ → Result B ℕ
told read (Ok a) = Ok (read a)
told read (Err i) = Err i

-- one table of numbers
pub table_new_one : OneReading table-new-kinds.ps table-new-kinds.r (λ κs t. numbers t) table-new-reads.Post
table_new_one κs a x y s t p q = same p q

-- two that are refused at one place, or not, and read the same where they are not
told_same : {A B : Type 0} (read : A → B) (P : A → Type 0) → ((a c : A) → P a → P c → read a ≡ read c) → (x y : Result A ℕ) (o : Option ℕ)
    → place_of x ≡ o → place_of y ≡ o → IfOk x P → IfOk y P → told read x ≡ told read y
told_same read P both (Ok a) (Ok c) o e f p q = ap Ok (both a c p q)
told_same read P both (Ok a) (Err j) o e f p q = absurd (none-some j (same e f))
told_same read P both (Err i) (Ok c) o e f p q = absurd (none-some i (same f e))
told_same read P both (Err i) (Err j) o e f p q = ap Err (same_Some i j (same e f))

-- one table of numbers that refusal 12 leaves, or one place
pub table_check_one : OneReading table-check-kinds.ps table-check-kinds.r {L = Result (List ℕ) ℕ} (λ κs v. told numbers v) table-check-reads.Post
table_check_one κs a x y s t p q = told_same numbers _ (λ b c e f. same e f) x y _ p.0 q.0 p.1 q.1

-- one pond that refusal 13 leaves of a table, or one place
pub pond_check_one : OneReading pond-check-kinds.ps pond-check-kinds.r {L = Result (List ℕ × ℕ) ℕ} (λ κs v. told numbers_of v) pond-check-reads.Post
pond_check_one κs a x y s t p q = told_same numbers_of _ (λ b c e f i. (same (ap numbers e.0) (ap numbers f.0) i, same e.1 f.1 i)) x y _ p.0 q.0 p.1 q.1

-- one count of its rows
pub rows_one : OneAnswer rows-kinds.ps rows-kinds.r rows-reads.Post
rows_one κs a x y s t p q = same p q

-- one pond of numbers at half a step
pub pond_new_one : OneReading pond-new-kinds.ps pond-new-kinds.r {L = List ℕ × ℕ} (λ κs v. numbers_of v) pond-new-reads.Post
pond_new_one κs a x y s t p q = λ i. (same p.0 q.0 i, same p.1 q.1 i)

-- one X for a row
pub sum_at_one : OneAnswer sum-at-kinds.ps sum-at-kinds.r sum-at-reads.Post
sum_at_one κs a x y s t p q = same p q

-- one last X
pub last_sum_one : OneAnswer last-sum-kinds.ps last-sum-kinds.r last-sum-reads.Post
last_sum_one κs a x y s t p q = same p q

-- one lower row
pub lower_one : OneAnswer lower-kinds.ps lower-kinds.r lower-reads.Post
lower_one κs a x y s t p q = same p q

-- one discharge at x
pub discharge_at_one : OneAnswer discharge-at-kinds.ps discharge-at-kinds.r discharge-at-reads.Post
discharge_at_one κs a x y s t p q = same p q

-- one stage at x
pub stage_at_sum_one : OneAnswer stage-at-kinds.ps stage-at-kinds.r stage-at-reads.Post
stage_at_sum_one κs a x y s t p q = same p q

-- one X for a state and an inflow volume
pub arrive_one : OneAnswer arrive-kinds.ps arrive-kinds.r arrive-reads.Post
arrive_one κs a x y s t p q = same p q

-- one state at x
pub settle_one : OneAnswer settle-kinds.ps settle-kinds.r settle-reads.Post
settle_one κs a x y s t p q = same p q

-- one verdict on the count
pub count_good_one : OneAnswer count-good-kinds.ps count-good-kinds.r count-good-reads.Post
count_good_one κs a x y s t p q = same p q

-- one first bad row
pub first_bad_one : OneAnswer first-bad-kinds.ps first-bad-kinds.r first-bad-reads.Post
first_bad_one κs a x y s t p q = same p.0 q.0

-- one first row that holds too little
pub first_short_one : OneAnswer first-short-kinds.ps first-short-kinds.r first-short-reads.Post
first_short_one κs a x y s t p q = same p.0 q.0

pub last_discharge_one : OneAnswer last-discharge-kinds.ps last-discharge-kinds.r last-discharge-reads.Post
last_discharge_one κs a x y s t p q = same p q
