-- Laying pieces into rows: how much a row has at most, and what the lists that the code fills come to. Assumes nothing.
use mathlib.Core.Path.{◌≡◌, sym, ap, ◌∙◌}
use mathlib.Core.List.{List}
use Prim.Native.Nat.{ℕ, ◌+◌, ◌-◌, ◌*◌, ◌≤◌, ◌<◌}
use native.Mathlib.Nat.{mul-le-mul, mul-le-mul_left, zero-div}
use native.Mathlib.Omega.{arith}
use lib.Dec.{leb}
use lib.ListN.{length, get_or, take, replicate, get_or-replicate}
use lib.Seq.{get_or-take, length-take-le}
use Rattle.laws.specs.Sum.{sum_to, sum_from1}
use Rattle.laws.specs.Filled.{Filled}
use Rattle.laws.specs.Listed.{plus}
use Rattle.laws.specs.Limits.{most_rows, most_weights}
use Rattle.laws.proofs.Num.{div_rises}
use Rattle.laws.proofs.Tests.{by_test}
use Rattle.laws.proofs.Sums.{sum_same, sum_most, sum_upto, sum_swap}
use Rattle.laws.proofs.Listed.{plus_length, plus_at}
use Rattle.laws.proofs.Laying.{row_most}
use Rattle.curve.specs.Needs.{CurveOk}
use Rattle.hydrograph.specs.InflowRows.{weight, weights, total_weight, volume_of}
use Rattle.hydrograph.specs.Needs.{most_depth, TimingOk, RainOk}
use Rattle.hydrograph.proofs.Weights.{weight_most, in_time, total_some, total_to, weights_most}
use Rattle.hydrograph.proofs.Released.{runoff_own, runoff_most, sum_bound}
use Rattle.textbook.specs.Textbook.{rain_steps, added, in_row, laid, depth_laid, part_laid}
use Rattle.textbook.specs.Needs.{most_weight, steps_to, laid_by, laid_to, laid_on, AddedOk, LaidOk, through_of, part_of_laid, SumsOk}
use Rattle.textbook.proofs.Laid.{sums_agree}

-- a piece: a runoff added times a weight
pub piece_most : (a w : ℕ) → a ≤ most_depth → w ≤ most_weight → a * w ≤ most_depth * most_weight
piece_most a w l m = mul-le-mul l m

module _ (more : List ℕ) (ok : AddedOk more) where
  -- the first n rain steps lay at most one piece of a weight into a row
  laid_some : (v j n k : ℕ) → v ≤ most_weight → 1 ≤ j → n ≤ length more → steps_to more v j n k ≤ most_depth * most_weight
  laid_some v j n k small some few =
      omega (
        arith,
        row_most (λ t. get_or more (t - 1) 0 * v) (most_depth * most_weight) j some n (λ t l. each t (omega arith)) k,
        by_test (λ (z : ℕ). z ≤ most_depth * most_weight) (leb k (n + j - 1)) (most_depth * most_weight) 0 (λ e. omega arith) (λ e. omega arith),
      )
    where
      each : (t : ℕ) → t < length more → get_or more (t + 1 - 1) 0 * v ≤ most_depth * most_weight
      each t l = let e : t + 1 - 1 ≡ t = omega arith in rw e (piece_most (get_or more t 0) v (ok.small t l) small)

  -- rows with what the first n rain steps lay of one weight more have room for a piece
  pub steps_room : (v j n : ℕ) (rows : List ℕ) → v ≤ most_weight → 1 ≤ j → j ≤ most_weights → n ≤ length more → LaidOk rows (j - 1) → LaidOk (plus (steps_to more v j n) 1 rows) most_weights
  steps_room v j n rows small some most few room =
      record {
        most = omega (arith, plus_length (steps_to more v j n) 1 rows, room.most);
        room = λ i l. fits i (omega (arith, plus_length (steps_to more v j n) 1 rows));
      }
    where
      fits : (i : ℕ) → i < length rows → get_or (plus (steps_to more v j n) 1 rows) i 0 ≤ most_weights * (most_depth * most_weight)
      fits i l = omega (arith, plus_at (steps_to more v j n) 1 rows i l, room.room i l, laid_some v j n (1 + i) small some few)

  -- rows with all that the first n weights lay on rows of zeros
  pub laid_room : (D Tp : ℕ) → TimingOk D Tp → (rows : List ℕ) → LaidOk rows 0 → (n : ℕ) → n ≤ weights Tp D → LaidOk (plus (laid_to more Tp D n) 1 rows) n
  laid_room D Tp timing rows room n few =
      record {
        most = omega (arith, plus_length (laid_to more Tp D n) 1 rows, room.most);
        room = λ i l. fits i (omega (arith, plus_length (laid_to more Tp D n) 1 rows));
      }
    where
      fits : (i : ℕ) → i < length rows → get_or (plus (laid_to more Tp D n) 1 rows) i 0 ≤ n * (most_depth * most_weight)
      fits i l =
          omega (
            arith,
            plus_at (laid_to more Tp D n) 1 rows i l,
            room.room i l,
            sum_most (λ j. laid_by more (weight Tp D (j + 1)) (j + 1) (1 + i)) (most_depth * most_weight) n
                (λ j h. laid_some (weight Tp D (j + 1)) (j + 1) (length more) (1 + i) (weight_most D Tp timing (j + 1) (in_time D Tp timing (j + 1) (omega arith))) (omega arith) (omega arith)),
          )

-- nothing is through before the first row
pub through_none : (A w : ℕ) (laid : List ℕ) → 0 ≡ through_of A w laid 0
unfolding sum_to volume_of
through_none A w laid = rw (zero-div w) (omega arith)

-- the volume of a depth within its bound
pub volume_small : (A d : ℕ) → d ≤ most_depth → volume_of A d ≤ 1089000 * A
unfolding volume_of
volume_small A d l = omega (arith, mul-le-mul_left (363 * A) l)

-- the volume through a row never falls
pub through_rises : (A w : ℕ) (laid : List ℕ) (k : ℕ) → 0 < w → through_of A w laid k ≤ through_of A w laid (k + 1)
unfolding volume_of
through_rises A w laid k some =
    omega (arith, mul-le-mul_left (363 * A) (div_rises (sum_to (λ i. get_or laid i 0) k) (sum_to (λ i. get_or laid i 0) (k + 1)) w some (sum_upto (λ i. get_or laid i 0) k (k + 1) (omega arith))))

-- a row with its part, from the volumes through it and through the row before
pub part_turn : (A w : ℕ) (laid : List ℕ) (i row first through before : ℕ) → row ≡ first → through ≡ through_of A w laid (i + 1) → before ≡ through_of A w laid i
    → row + (through - before) ≡ first + part_of_laid A w laid (i + 1)
part_turn A w laid i row first through before d e f = let back : i + 1 - 1 ≡ i = omega arith in rw (d, e, f, back)

-- the front of a local list of zeros
pub blank_ok : (m : ℕ) → m ≤ most_rows → LaidOk (take m (replicate most_rows 0)) 0
blank_ok m few =
    let zeros : List ℕ = replicate most_rows 0 in
    let long = length-take-le m zeros few in
    record { most = omega (arith, long); room = λ i l. rw (get_or-take m zeros i 0 (omega (arith, long)), get_or-replicate {A = ℕ} most_rows i 0 0 (omega (arith, long))) (omega arith) }

-- the front of a list of the runoffs added
module _ (c : ℕ) (rain more : List ℕ) (few : length rain ≤ most_rows + 1) (room : length more ≡ most_rows) (filled : Filled (λ i. added c rain (i + 1)) (rain_steps rain) more) where
  pub front_long : length (take (rain_steps rain) more) ≡ rain_steps rain
  front_long = length-take-le (rain_steps rain) more (omega (arith, few, room))

  pub front_filled : Filled (λ i. added c rain (i + 1)) (rain_steps rain) (take (rain_steps rain) more)
  front_filled = record { each = λ i l. get_or-take (rain_steps rain) more i 0 l ∙ filled.each i l }

  pub added_ok : CurveOk c → RainOk rain → AddedOk (take (rain_steps rain) more)
  unfolding added
  added_ok curve ok =
      record {
        few = omega (arith, front_long, few);
        small = λ i l. rw (front_filled.each i (omega (arith, front_long))) (small i (omega (arith, front_long)));
      }
    where
      small : (i : ℕ) → i < rain_steps rain → added c rain (i + 1) ≤ most_depth
      small i l = omega (arith, runoff_own c rain curve ok (i + 1) (omega arith), runoff_most c rain curve ok (i + 1))

-- of one subarea: a list of the runoffs added, and rows of zeros
module _ (c Tp D : ℕ) (rain : List ℕ) (more rows : List ℕ) (long : length more ≡ rain_steps rain) (filled : Filled (λ i. added c rain (i + 1)) (rain_steps rain) more) (empty : LaidOk rows 0) where
  -- what the code lays into a row is what the definition says of it
  pub laid_is : (i : ℕ) → i < length rows → get_or (laid_on more Tp D rows) i 0 ≡ laid c Tp D rain (i + 1)
  laid_is i l =
      let f : ℕ → ℕ → ℕ = λ t j. in_row (i + 1) (t + 1) (j + 1) (added c rain (t + 1) * weight Tp D (j + 1)) in
      plus_at (laid_to more Tp D (weights Tp D)) 1 rows i l
      ∙ alone (get_or rows i 0) (laid_to more Tp D (weights Tp D) (1 + i)) nothing
      ∙ same
      ∙ sym (sum_swap f (rain_steps rain) (weights Tp D))
    where
      nothing : get_or rows i 0 ≡ 0
      nothing = omega (arith, empty.room i l)

      alone : (a b : ℕ) → a ≡ 0 → a + b ≡ b
      alone a b e = omega arith

      one : (t j : ℕ) → t < length more → in_row (1 + i) (t + 1) (j + 1) (get_or more (t + 1 - 1) 0 * weight Tp D (j + 1)) ≡ in_row (i + 1) (t + 1) (j + 1) (added c rain (t + 1) * weight Tp D (j + 1))
      one t j h =
          let e : t + 1 - 1 ≡ t = omega arith in
          let d : 1 + i ≡ i + 1 = omega arith in
          rw (e, d, filled.each t (omega (arith, long)))

      same : laid_to more Tp D (weights Tp D) (1 + i) ≡ sum_to (λ j. sum_to (λ t. in_row (i + 1) (t + 1) (j + 1) (added c rain (t + 1) * weight Tp D (j + 1))) (rain_steps rain)) (weights Tp D)
      same =
          sum_same (λ j. laid_by more (weight Tp D (j + 1)) (j + 1) (1 + i)) (λ j. sum_to (λ t. in_row (i + 1) (t + 1) (j + 1) (added c rain (t + 1) * weight Tp D (j + 1))) (rain_steps rain)) (weights Tp D)
          (λ j h. ap (sum_to (λ t. in_row (1 + i) (t + 1) (j + 1) (get_or more (t + 1 - 1) 0 * weight Tp D (j + 1)))) long
          ∙ sum_same (λ t. in_row (1 + i) (t + 1) (j + 1) (get_or more (t + 1 - 1) 0 * weight Tp D (j + 1))) (λ t. in_row (i + 1) (t + 1) (j + 1) (added c rain (t + 1) * weight Tp D (j + 1))) (rain_steps rain) (λ t q. one t j (omega (arith, long))))

  -- so are the sums through a row
  pub sums_are : (k : ℕ) → k ≤ length rows → sum_to (λ i. get_or (laid_on more Tp D rows) i 0) k ≡ sum_from1 (laid c Tp D rain) k
  sums_are k l = sum_same (λ i. get_or (laid_on more Tp D rows) i 0) (λ i. laid c Tp D rain (i + 1)) k (λ i h. laid_is i (omega arith))

  -- and the parts
  pub parts_are : (A k : ℕ) → k ≤ length rows → part_of_laid A (total_weight Tp D) (laid_on more Tp D rows) k ≡ part_laid c A Tp D rain k
  unfolding part_laid depth_laid
  parts_are A k l = rw (sums_are k l, sums_are (k - 1) (omega arith))

  -- none is too large
  pub sums_ok : CurveOk c → RainOk rain → TimingOk D Tp → SumsOk (total_weight Tp D) (laid_on more Tp D rows)
  unfolding total_weight
  sums_ok curve raining timing =
      record {
        some = total_some D Tp timing;
        most = whole;
        each = λ k l. fits k (omega (arith, plus_length (laid_to more Tp D (weights Tp D)) 1 rows));
      }
    where
      whole : total_weight Tp D ≤ most_weights * most_weight
      whole = omega (arith, total_to D Tp timing (weights Tp D) (omega arith), weights_most D Tp timing)

      fits : (k : ℕ) → k ≤ length rows → sum_to (λ i. get_or (laid_on more Tp D rows) i 0) k ≤ most_depth * total_weight Tp D
      fits k l = omega (arith, sums_are k l, sums_agree c rain curve raining Tp D k, sum_bound c rain curve raining D Tp timing k)
