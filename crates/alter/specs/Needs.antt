-- What contracts ask of an edit, and proofs use; no rule of docs/SCOPE.md is here. What is left of 6 to 11 on the altered list once the list as it stands has passed them (the same tests, each of the fresh record alone, and 8 of the total less the old area plus the new).
use Rattle.std.specs.Prelude.{◌≡◌, true, List, map, ℕ, ◌+◌, ◌-◌, ◌≤◌, ◌<◌, length}
use Rattle.curve.specs.declared.Classes.{Classes}
use Rattle.hydrograph.specs.Needs.{RoomOk}
use Rattle.rows.specs.Figures.{at}
use Rattle.subarea.specs.declared.Setup.{Setup}
use Rattle.subarea.specs.Records.{width, records_in, area_of, patches_pass}
use Rattle.checks.specs.Order.{ListTest, each, total, all_area, list_tests, list_lines}
use Rattle.refusals.specs.Refusals.{Line, none, charge, unless, first_refusal}
use Rattle.subarea.specs.Needs.{RecordsOk, AllPatches}
use Rattle.checks.specs.Needs.{StepOk}
use Rattle.alter.specs.Altering.{old_record}

-- 8: all areas together (exact: `old_area`)
abbrev pub altered_area : List ℕ → ℕ → List ℕ → ℕ
altered_area s k r = all_area s - area_of (old_record s k) + area_of r

-- a test of a list, where only the fresh record can fail it
abbrev pub over_fresh : List ℕ → ℕ → List ℕ → ListTest → Line
over_fresh s k r (each rule good) = charge rule (good r) k
over_fresh s k r (total rule good) = unless rule (good (altered_area s k r))

abbrev pub fresh_lines : Setup → List ℕ → ℕ → List ℕ → List Line
fresh_lines g s k r = map (over_fresh s k r) (list_tests g)

-- class areas, the old record's taken away (exact: `swap_ok`) and the fresh one's added
abbrev pub classes_swapped : Classes → Classes → Classes → Classes
classes_swapped c d e =
    record {
      surfaces = c.surfaces - d.surfaces + e.surfaces;
      districts = c.districts - d.districts + e.districts;
      lots = c.lots - d.lots + e.lots;
      rural = c.rural - d.rural + e.rural;
    }

-- a listed place and a record of its width
pub record PlaceOk (s : List ℕ) (k : ℕ) (r : List ℕ) : Type 0 where
  pub records : RecordsOk s
  pub listed : 1 ≤ k
  pub last : k ≤ records_in s
  pub whole : length r ≡ width

-- a step within its limits, and a list that passes 6 to 11
pub record PassedOk (g : Setup) (s : List ℕ) : Type 0 where
  pub step : StepOk g.step
  pub none_refused : first_refusal (list_lines g s) ≡ none

-- a list and a fresh record whose areas can be summed
pub record GroundOk (s : List ℕ) (k : ℕ) (r : List ℕ) : Type 0 where
  pub place : PlaceOk s k r
  pub patched : AllPatches s
  pub fresh : patches_pass r ≡ true

-- class areas that can be taken away, and areas that can be added
pub record SwapOk (c d e : Classes) : Type 0 where
  pub surfaces_least : d.surfaces ≤ c.surfaces
  pub districts_least : d.districts ≤ c.districts
  pub lots_least : d.lots ≤ c.lots
  pub rural_least : d.rural ≤ c.rural
  pub surfaces_most : c.surfaces + e.surfaces ≤ 200000000
  pub districts_most : c.districts + e.districts ≤ 200000000
  pub lots_most : c.lots + e.lots ≤ 200000000
  pub rural_most : c.rural + e.rural ≤ 200000000

-- inflow rows vs that leave room, and from which the parts fs can be taken
pub record PartsOk (vs fs : List ℕ) : Type 0 where
  pub long : length fs ≡ length vs
  pub room : RoomOk vs
  pub least : (i : ℕ) → i < length vs → at fs i ≤ at vs i

-- rows after row `from` that leave room, and from each of which its part f can be taken
pub record PartsFit (f : ℕ → ℕ) (from : ℕ) (vs : List ℕ) : Type 0 where
  pub room : RoomOk vs
  pub least : (i : ℕ) → i < length vs → f (from + 1 + i) ≤ at vs i
