-- docs/SCOPE.md, 'Figures of a study' and refusal 17: figures of rows that stand in the lists, and when rows can be a pond's.
use Rattle.std.specs.Prelude.{Bool, ◌&&◌, Option, List, ℕ, zero, suc, ◌+◌, ◌-◌, ◌*◌, max, length, get_or, leb, ltb, eqb}
use Rattle.laws.specs.Pick.{pick}
use Rattle.laws.specs.Scan.{scan}
use Rattle.laws.specs.Search.{first_bad_of}
use Rattle.laws.specs.Sum.{sum_to}
use Rattle.pond.specs.PondRows.{last_sum, last_discharge, stage_at}
use Rattle.rows.specs.declared.Kept.{Kept}
use Rattle.rows.specs.declared.RowFigures.{RowFigures}

-- the greatest of f 0 to f (n - 1), 0 of none
unfoldable pub max_to : (ℕ → ℕ) → ℕ → ℕ
max_to f zero = 0
max_to f (suc n) = max (max_to f n) (f n)

-- row i of a list
abbrev pub at : List ℕ → ℕ → ℕ
at l i = get_or l i 0

-- the outflow before row i, from the outflow o before row 0 (i - 1 is read only where i is not 0)
abbrev pub before : ℕ → List ℕ → ℕ → ℕ
before o os i = pick (eqb i 0) o (at os (i - 1))

-- row i releases h times old plus new outflow
abbrev pub release_at : ℕ → ℕ → List ℕ → ℕ → ℕ
release_at h o os i = h * (before o os i + at os i)

-- the first row, from 1, that has the greatest outflow of the first n
unfoldable pub peak_row : List ℕ → ℕ → ℕ
peak_row os n = scan (λ i. ltb (at os i) (max_to (at os) n)) n 0 + 1

-- X of row i is storage + h times outflow; its stage is the straight-line stage there
abbrev pub row_stage : ℕ → List ℕ → List ℕ → List ℕ → ℕ → ℕ
row_stage h p os ss i = stage_at h p (at ss i + h * at os i)

-- of the first n rows: total released, peak outflow with the first row that has it, greatest row stage
unfoldable pub kept_to : ℕ → List ℕ → ℕ → List ℕ → List ℕ → ℕ → Kept
kept_to h p o os ss n =
    record {
      released = sum_to (release_at h o os) n;
      peak = max_to (at os) n;
      row = peak_row os n;
      stage = max_to (row_stage h p os ss) n;
    }

-- figures of standing rows: total inflow, last storage, and those (length ss - 1 is exact: 1 leaves 1 row at least, `frame_ok` of checks)
unfoldable pub figures_of : ℕ → List ℕ → List ℕ → List ℕ → List ℕ → RowFigures
figures_of h p vs os ss =
    record {
      inflow = sum_to (at vs) (length vs);
      storage = at ss (length ss - 1);
      kept = kept_to h p 0 os ss (length os);
    }

-- refusal 17: outflow not above the last discharge, storage not below h times outflow, their sum not above the last X_i
unfoldable pub stands_within : ℕ → ℕ → ℕ → ℕ → ℕ → Bool
stands_within h most top o s = leb o most && (leb (h * o) s && leb (s + h * o) top)

abbrev pub stands_good : ℕ → List ℕ → ℕ → ℕ → Bool
stands_good h p o s = stands_within h (last_discharge p) (last_sum h p) o s

-- the first row, from 0, that fails it
abbrev pub first_forged : ℕ → List ℕ → List ℕ → List ℕ → Option ℕ
first_forged h p os ss = first_bad_of (λ i. stands_good h p (at os i) (at ss i)) (length os)
