-- A patch as an array of three numbers is the patch of the list. Assumes nothing.
use mathlib.Core.Path.{◌≡◌, refl}
use mathlib.Core.Bool.{◌&&◌}
use mathlib.Core.List.{List, []}
use Prim.Native.Nat.{ℕ, ◌+◌, ◌*◌, ◌<◌, ◌%◌}
use native.Mathlib.Omega.{arith}
use lib.ListN.{length, get_or}
use lib.Dec.{eqb}
use Rattle.std.specs.Simd.{first_chunks}
use Rattle.std.specs.List.{list_all}
use Rattle.laws.specs.Within.{within}
use Rattle.laws.proofs.Chunks.{chunks_length, chunk_number}
use Rattle.laws.proofs.Flats.{flat_chunks}
use Rattle.curve.specs.CurveNumbers.{patches_in, cover, soil, area, patch_within, patch_good, patches_good}
use Rattle.curve.specs.Needs.{cover_of, soil_of, area_of}

-- the patches of a list, as arrays
abbrev pub listed : List ℕ → List (List ℕ)
listed p = first_chunks 3 (patches_in p) p

-- what stands at place i of them
pub record PatchAt (p : List ℕ) (list : List (List ℕ)) (i : ℕ) : Type 0 where
  pub inside : i < patches_in p
  pub cover : cover_of (get_or list i []) ≡ cover p i
  pub soil : soil_of (get_or list i []) ≡ soil p i
  pub area : area_of (get_or list i []) ≡ area p i

pub patch_at : {p : List ℕ} {list : List (List ℕ)} {i : ℕ} → list ≡ listed p → i < length list → PatchAt p list i
patch_at {p} {list} {i} e l =
    let h : i < patches_in p = rw (e, chunks_length 3 (patches_in p) p) at l in
    record {
      inside = h;
      cover = let z : 3 * i + 0 ≡ 3 * i = omega arith in rw e (rw z at (chunk_number 3 (patches_in p) p i 0 h (omega arith)));
      soil = rw e (chunk_number 3 (patches_in p) p i 1 h (omega arith));
      area = rw e (chunk_number 3 (patches_in p) p i 2 h (omega arith));
    }

-- the test of a list is that of its patches
pub patches_each : (p : List ℕ) → patches_good p ≡ (eqb (length p % 3) 0 && (within 1 (patches_in p) 8 && list_all (λ patch. patch_within (cover_of patch) (soil_of patch) (area_of patch)) (listed p)))
unfolding patches_good
patches_each p =
    flat_chunks 3 8 (patch_good p) p (λ patch. patch_within (cover_of patch) (soil_of patch) (area_of patch))
    (λ i l. let a = patch_at {p = p} {list = listed p} {i = i} refl (rw (chunks_length 3 (patches_in p) p) l) in rw (a.cover, a.soil, a.area))
