-- What contracts ask and say of lists of runoffs added and of what is laid, and proofs use; no rule is here.
use Rattle.std.specs.Prelude.{◌≡◌, List, ℕ, ◌-◌, ◌*◌, ◌/◌, ◌≤◌, ◌<◌, length, get_or}
use Rattle.laws.specs.Limits.{most_rows, most_area, most_weights}
use Rattle.laws.specs.Sum.{sum_to, sum_from1}
use Rattle.laws.specs.Listed.{plus}
use Rattle.hydrograph.specs.InflowRows.{weight, weights, total_weight, volume_of}
use Rattle.hydrograph.specs.Needs.{most_depth, TimingOk, RoomOk}
use Rattle.textbook.specs.Textbook.{in_row}

-- no weight is above this
abbrev pub most_weight : ℕ
most_weight = 1000000

-- what weight j, which is v, lays into row k over the first n rain steps, by a list of the runoffs added
abbrev pub steps_to : List ℕ → ℕ → ℕ → ℕ → ℕ → ℕ
steps_to more v j n k = sum_from1 (λ t. in_row k t j (get_or more (t - 1) 0 * v)) n

-- and over all
abbrev pub laid_by : List ℕ → ℕ → ℕ → ℕ → ℕ
laid_by more v j k = steps_to more v j (length more) k

-- and what the first n weights lay
abbrev pub laid_to : List ℕ → ℕ → ℕ → ℕ → ℕ → ℕ
laid_to more Tp D n k = sum_from1 (λ j. laid_by more (weight Tp D j) j k) n

-- rows with all that is laid on them
abbrev pub laid_on : List ℕ → ℕ → ℕ → List ℕ → List ℕ
laid_on more Tp D rows = plus (laid_to more Tp D (weights Tp D)) 1 rows

-- a list of runoffs added: few, and none above the most
pub record AddedOk (more : List ℕ) : Type 0 where
  pub few : length more ≤ most_rows
  pub small : (i : ℕ) → i < length more → get_or more i 0 ≤ most_depth

-- rows in each of which stands no more than j of the greatest pieces
pub record LaidOk (rows : List ℕ) (j : ℕ) : Type 0 where
  pub most : length rows ≤ most_rows
  pub room : (i : ℕ) → i < length rows → get_or rows i 0 ≤ j * (most_depth * most_weight)

-- the depth and the volume through row k of what is laid, w all weights together
abbrev pub through_of : ℕ → ℕ → List ℕ → ℕ → ℕ
through_of A w laid k = volume_of A (sum_to (λ i. get_or laid i 0) k / w)

-- and the part of row k
abbrev pub part_of_laid : ℕ → ℕ → List ℕ → ℕ → ℕ
part_of_laid A w laid k = through_of A w laid k - through_of A w laid (k - 1)

-- what is laid comes to no more than the greatest depth times all weights, through any row
pub record SumsOk (w : ℕ) (laid : List ℕ) : Type 0 where
  pub some : 0 < w
  pub most : w ≤ most_weights * most_weight
  pub each : (k : ℕ) → k ≤ length laid → sum_to (λ i. get_or laid i 0) k ≤ most_depth * w

-- what laying all pieces and adding the parts asks: rows of zeros to lay into, as many as there are rows to add to
pub record LayingOk (A Tp D : ℕ) (more laid rows : List ℕ) : Type 0 where
  pub area : A ≤ most_area
  pub timed : TimingOk D Tp
  pub steps : AddedOk more
  pub empty : LaidOk laid 0
  pub sums : SumsOk (total_weight Tp D) (laid_on more Tp D laid)
  pub long : length laid ≡ length rows
  pub room : RoomOk rows
