-- What a dry run and a tally keep, and what contracts ask of rows; no rule of docs/SCOPE.md is here.
use Rattle.std.specs.Prelude.{◌≡◌, List, [], ◌∷◌, ℕ, ◌+◌, ◌*◌, ◌≤◌, ◌<◌, max, length, get_or, take, ltb, eqb}
use Rattle.laws.specs.Pick.{pick}
use Rattle.laws.specs.Limits.{most_rows}
use Rattle.laws.specs.Sum.{sum_to}
use Rattle.pond.specs.PondRows.{last_sum, last_discharge, stage_at, arrived, next}
use Rattle.pond.specs.declared.State.{State}
use Rattle.rows.specs.declared.Kept.{Kept}
use Rattle.rows.specs.declared.Dry.{Dry}
use Rattle.rows.specs.declared.Tide.{Tide}
use Rattle.rows.specs.declared.Tally.{Tally}
use Rattle.rows.specs.Figures.{max_to, at, release_at, peak_row, kept_to}
use Rattle.rows.specs.Routing.{end_of, outflows, storages, passed, over_row, total}

-- what a dry run keeps: where it went over, the figures of the rows that pass, and the state after them
unfoldable pub dry_of : ℕ → List ℕ → State → List ℕ → Dry
dry_of h p st vs =
    record {
      over = over_row h p st vs;
      kept = kept_to h p st.outflow (outflows h p st vs) (storages h p st vs) (passed h p st vs);
      last = end_of h p st (take (passed h p st vs) vs);
    }

-- what a block of rows run dry leaves, and its inflow
abbrev pub tide_of : ℕ → List ℕ → State → List ℕ → Tide
tide_of h p st vs = record { over = (dry_of h p st vs).over; last = (dry_of h p st vs).last; inflow = total vs }

-- inflow volumes that leave room for a row's sum
pub record InflowOk (vs : List ℕ) : Type 0 where
  pub small : (i : ℕ) → i < length vs → get_or vs i 0 ≤ 1000000000000000

-- X of row i
abbrev pub row_sum : ℕ → List ℕ → List ℕ → ℕ → ℕ
row_sum h os ss i = at ss i + h * at os i

-- of the first n rows: total inflow, total released, peak outflow with the first row that has it, greatest X
unfoldable pub tally_to : ℕ → ℕ → List ℕ → List ℕ → List ℕ → ℕ → Tally
tally_to h o vs os ss n =
    record {
      inflow = sum_to (at vs) n;
      released = sum_to (release_at h o os) n;
      peak = max_to (at os) n;
      row = peak_row os n;
      most = max_to (row_sum h os ss) n;
    }

-- of no rows
abbrev pub tally_none : Tally
tally_none = record { inflow = 0; released = 0; peak = 0; row = 1; most = 0 }

-- with one row more: its inflow v, the outflow b before it, its outflow q, its X, and its number k
abbrev pub tally_with : Tally → ℕ → ℕ → ℕ → ℕ → ℕ → ℕ → Tally
tally_with f h v b q x k =
    record {
      inflow = f.inflow + v;
      released = f.released + h * (b + q);
      peak = max f.peak q;
      row = pick (ltb f.peak q) k f.row;
      most = max f.most x;
    }

-- a tally of k rows with those that a list of inflows leads to, from the state before the first
unfoldable pub tally_on : ℕ → List ℕ → Tally → ℕ → State → List ℕ → Tally
tally_on h p f k st [] = f
tally_on h p f k st (v ∷ vs) =
    tally_on h p (tally_with f h v st.outflow (next h p st v).outflow (arrived h st v) (k + 1)) (k + 1) (next h p st v) vs

-- what a tally of n rows tells: the stage at the greatest X, 0 of no rows
unfoldable pub kept_of : ℕ → List ℕ → Tally → ℕ → Kept
kept_of h p f n =
    record {
      released = f.released;
      peak = f.peak;
      row = f.row;
      stage = pick (eqb n 0) 0 (stage_at h p f.most);
    }

-- a tally that leaves room for one row more
pub record TurnOk (f : Tally) (h v b q : ℕ) : Type 0 where
  pub flows : b + q ≤ 1000000000000
  pub release : h * (b + q) ≤ 3000000000000
  pub released_most : f.released ≤ 10000000000000000
  pub come : v ≤ 1000000000000000
  pub inflow_most : f.inflow ≤ 2000000000000000000

-- a tally of a rows that leaves room for n more
pub record RoomOk (f : Tally) (a n : ℕ) : Type 0 where
  pub few : a + n ≤ most_rows
  pub inflow_most : f.inflow ≤ a * 1000000000000000
  pub released_most : f.released ≤ a * 3000000000000

-- rows before row a whose X are small
pub record SumsOk (h : ℕ) (os ss : List ℕ) (a : ℕ) : Type 0 where
  pub least : 30 ≤ h
  pub each : (i : ℕ) → i < a → row_sum h os ss i ≤ 1018000000000

-- one row that passes
pub record RowOk (h : ℕ) (p : List ℕ) (o s : ℕ) : Type 0 where
  pub outflow_most : o ≤ last_discharge p
  pub covers : h * o ≤ s
  pub within_last : s + h * o ≤ last_sum h p

-- rows of which those before row a pass; what stands from a on is the caller's scratch
pub record RowsBefore (h : ℕ) (p os ss : List ℕ) (a : ℕ) : Type 0 where
  pub each : (i : ℕ) → i < a → RowOk h p (at os i) (at ss i)

-- rows that all pass
pub record RowsOk (h : ℕ) (p os ss : List ℕ) : Type 0 where
  pub long : length ss ≡ length os
  pub few : length os ≤ most_rows
  pub each : (i : ℕ) → i < length os → RowOk h p (at os i) (at ss i)
