-- Document 01, 'Curve numbers', and Q-5: the cover table, the classes, and the composite curve number of a subarea's patches, in tenths.
use Rattle.std.specs.Prelude.{Bool, ◌&&◌, List, [], ◌∷◌, ℕ, ◌+◌, ◌-◌, ◌*◌, ◌/◌, length, get_or, leb, eqb}
use Rattle.laws.specs.Pick.{pick}
use Rattle.laws.specs.Flat.{flat_good}
use Rattle.laws.specs.Sum.{sum_to}
use Rattle.laws.specs.Within.{within}
use Rattle.laws.specs.Limits.{most_area}
use Rattle.curve.specs.declared.Ground.{Ground}
use Rattle.curve.specs.declared.Classes.{Classes}

-- the cover table: twenty-two rows of four soil groups (TR-55 tables 2-2a, 2-2c)
unfoldable pub cover_table : List (List ℕ)
cover_table =
    (68 ∷ 79 ∷ 86 ∷ 89 ∷ [])
    ∷ (49 ∷ 69 ∷ 79 ∷ 84 ∷ [])
    ∷ (39 ∷ 61 ∷ 74 ∷ 80 ∷ [])
    ∷ (98 ∷ 98 ∷ 98 ∷ 98 ∷ [])
    ∷ (98 ∷ 98 ∷ 98 ∷ 98 ∷ [])
    ∷ (83 ∷ 89 ∷ 92 ∷ 93 ∷ [])
    ∷ (76 ∷ 85 ∷ 89 ∷ 91 ∷ [])
    ∷ (72 ∷ 82 ∷ 87 ∷ 89 ∷ [])
    ∷ (89 ∷ 92 ∷ 94 ∷ 95 ∷ [])
    ∷ (81 ∷ 88 ∷ 91 ∷ 93 ∷ [])
    ∷ (77 ∷ 85 ∷ 90 ∷ 92 ∷ [])
    ∷ (61 ∷ 75 ∷ 83 ∷ 87 ∷ [])
    ∷ (57 ∷ 72 ∷ 81 ∷ 86 ∷ [])
    ∷ (54 ∷ 70 ∷ 80 ∷ 85 ∷ [])
    ∷ (51 ∷ 68 ∷ 79 ∷ 84 ∷ [])
    ∷ (46 ∷ 65 ∷ 77 ∷ 82 ∷ [])
    ∷ (48 ∷ 67 ∷ 77 ∷ 83 ∷ [])
    ∷ (35 ∷ 56 ∷ 70 ∷ 77 ∷ [])
    ∷ (30 ∷ 48 ∷ 65 ∷ 73 ∷ [])
    ∷ (57 ∷ 73 ∷ 82 ∷ 86 ∷ [])
    ∷ (43 ∷ 65 ∷ 76 ∷ 82 ∷ [])
    ∷ (32 ∷ 58 ∷ 72 ∷ 79 ∷ [])
    ∷ []

-- the number of cover code 1 to 22 on soil group 1 to 4 (A to D) (exact: 6 leaves both at least 1, `patch_ok`)
unfoldable pub cover_number : ℕ → ℕ → ℕ
unfolding cover_table
cover_number cover soil = get_or (get_or cover_table (cover - 1) []) (soil - 1) 0

-- codes 1 to 8 are surfaces, class 1; 9 to 10 districts, 2; 11 to 16 lots, 3; 17 to 22 rural, 4; a number that is no code has class 0
unfoldable pub class_of : ℕ → ℕ
class_of cover =
    pick (leb cover 0) 0 (pick (leb cover 8) 1 (pick (leb cover 10) 2 (pick (leb cover 16) 3 (pick (leb cover 22) 4 0))))

-- a list of patches is flat, three numbers a patch: cover code, soil group, area in hundredths of an acre
abbrev pub patch_width : ℕ
patch_width = 3

abbrev pub most_patches : ℕ
most_patches = 8

abbrev pub patches_in : List ℕ → ℕ
patches_in p = length p / patch_width

abbrev pub cover : List ℕ → ℕ → ℕ
cover p i = get_or p (patch_width * i) 0

abbrev pub soil : List ℕ → ℕ → ℕ
soil p i = get_or p (patch_width * i + 1) 0

abbrev pub area : List ℕ → ℕ → ℕ
area p i = get_or p (patch_width * i + 2) 0

-- the curve number of patch i
abbrev pub number : List ℕ → ℕ → ℕ
number p i = cover_number (cover p i) (soil p i)

-- the area of all patches
unfoldable pub total_area : List ℕ → ℕ
total_area p = sum_to (area p) (patches_in p)

-- the number of patch i times its area
abbrev pub weighted_at : List ℕ → ℕ → ℕ
weighted_at p i = number p i * area p i

unfoldable pub weighted : List ℕ → ℕ
weighted p = sum_to (weighted_at p) (patches_in p)

-- a / b to the nearest whole, halves up
unfoldable pub nearest : ℕ → ℕ → ℕ
nearest a b = (2 * a + b) / (2 * b)

-- (Q-5) a / b in tenths, to the nearest, halves up
unfoldable pub mean_tenths : ℕ → ℕ → ℕ
mean_tenths a b = nearest (10 * a) b

-- (Q-5) the composite curve number in tenths: the area-weighted mean, to the nearest tenth, halves up
unfoldable pub composite_tenths : List ℕ → ℕ
composite_tenths p = mean_tenths (weighted p) (total_area p)

-- what a subarea's patches come to: their area and their composite curve number in tenths
abbrev pub ground_of : List ℕ → Ground
ground_of p = record { area = total_area p; tenths = composite_tenths p }

-- the area of patch i if it is of a class, else 0
abbrev pub area_in : List ℕ → ℕ → ℕ → ℕ
area_in p class i = pick (eqb (class_of (cover p i)) class) (area p i) 0

-- the area in a class of the first n patches
abbrev pub class_area : List ℕ → ℕ → ℕ → ℕ
class_area p n class = sum_to (area_in p class) n

-- the area in each class of the first n patches
abbrev pub classes_to : List ℕ → ℕ → Classes
classes_to p n =
    record { surfaces = class_area p n 1; districts = class_area p n 2; lots = class_area p n 3; rural = class_area p n 4 }

-- the area in each class
abbrev pub classes_of : List ℕ → Classes
classes_of p = classes_to p (patches_in p)

-- the limits of a patch
unfoldable pub patch_within : ℕ → ℕ → ℕ → Bool
patch_within cover soil area = within 1 cover 22 && (within 1 soil 4 && within 1 area most_area)

abbrev pub patch_good : List ℕ → ℕ → Bool
patch_good p i = patch_within (cover p i) (soil p i) (area p i)

-- 1 to 8 whole patches, each within its limits
unfoldable pub patches_good : List ℕ → Bool
patches_good p = flat_good patch_width most_patches (patch_good p) p
