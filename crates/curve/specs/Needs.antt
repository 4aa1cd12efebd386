-- What contracts ask of patches and curve numbers, and proofs use; no rule of docs/SCOPE.md is here.
use Rattle.std.specs.Prelude.{◌≡◌, List, ℕ, Option, Some, None, ◌+◌, ◌-◌, ◌*◌, ◌^◌, ◌≤◌, ◌<◌, length, slice_index_or, eqb}
use Rattle.laws.specs.Limits.{most_area}
use Rattle.laws.specs.Pick.{pick}
use Rattle.curve.specs.CurveNumbers.{patch_width, most_patches, patches_in, cover, soil, area, class_of}
use Rattle.curve.specs.declared.Classes.{Classes}
use Rattle.curve.specs.declared.Class.{Class}
use Rattle.curve.specs.declared.Class.TheVariants.{Surfaces, Districts, Lots, Rural}

-- a place of the cover table
pub record CoverOk (cover soil : ℕ) : Type 0 where
  pub cover_least : 1 ≤ cover
  pub cover_most : cover ≤ 22
  pub soil_least : 1 ≤ soil
  pub soil_most : soil ≤ 4

-- a patch within its limits
pub record PatchOk (cover soil area : ℕ) : Type 0 where
  pub place : CoverOk cover soil
  pub area_least : 1 ≤ area
  pub area_most : area ≤ most_area

-- a list of patches within its limits
pub record PatchesOk (p : List ℕ) : Type 0 where
  pub triples : length p ≡ patch_width * patches_in p
  pub least : 1 ≤ patches_in p
  pub most : patches_in p ≤ most_patches
  pub each : (i : ℕ) → i < patches_in p → PatchOk (cover p i) (soil p i) (area p i)

-- a curve number of the cover table, which is whole
pub record NumberOk (C : ℕ) : Type 0 where
  pub least : 30 ≤ C
  pub most : C ≤ 98

-- a curve number in tenths that a mean over the cover table can give
pub record CurveOk (c : ℕ) : Type 0 where
  pub least : 300 ≤ c
  pub most : c ≤ 980

-- what a mean is asked at: some area, and sums of which twenty times fit
pub record MeanOk (weighted area : ℕ) : Type 0 where
  pub some : 1 ≤ area
  pub area_most : area ≤ 1000000000000
  pub weighted_most : weighted ≤ 1000000000000

-- what stands in one patch
abbrev pub cover_of : List ℕ → ℕ
cover_of patch = slice_index_or patch 0 0

abbrev pub soil_of : List ℕ → ℕ
soil_of patch = slice_index_or patch 1 0

abbrev pub area_of : List ℕ → ℕ
area_of patch = slice_index_or patch 2 0

-- the number of a class, 0 for none
abbrev pub class_number : Option Class → ℕ
class_number (Some Surfaces) = 1
class_number (Some Districts) = 2
class_number (Some Lots) = 3
class_number (Some Rural) = 4
class_number None = 0

-- the class areas of one patch
abbrev pub alone_of : List ℕ → Classes
alone_of patch =
    let own : ℕ → ℕ = λ class. pick (eqb (class_of (cover_of patch)) class) (area_of patch) 0 in
    record { surfaces = own 1; districts = own 2; lots = own 3; rural = own 4 }

-- class areas added and taken away, class by class, and what that asks
abbrev pub classes_plus : Classes → Classes → Classes
classes_plus c d =
    record { surfaces = c.surfaces + d.surfaces; districts = c.districts + d.districts; lots = c.lots + d.lots; rural = c.rural + d.rural }

abbrev pub classes_less : Classes → Classes → Classes
classes_less c d =
    record { surfaces = c.surfaces - d.surfaces; districts = c.districts - d.districts; lots = c.lots - d.lots; rural = c.rural - d.rural }

pub record AddOk (c d : Classes) : Type 0 where
  pub surfaces : c.surfaces + d.surfaces < 2 ^ 64
  pub districts : c.districts + d.districts < 2 ^ 64
  pub lots : c.lots + d.lots < 2 ^ 64
  pub rural : c.rural + d.rural < 2 ^ 64

pub record SubOk (c d : Classes) : Type 0 where
  pub surfaces : d.surfaces ≤ c.surfaces
  pub districts : d.districts ≤ c.districts
  pub lots : d.lots ≤ c.lots
  pub rural : d.rural ≤ c.rural
