-- A list of patches passes the test exactly where it is within its limits. Assumes nothing.
use mathlib.Core.Path.{◌≡◌}
use mathlib.Core.Bool.{true, ◌&&◌}
use mathlib.Core.List.{List}
use Prim.Native.Nat.{ℕ}
use Rattle.laws.specs.Within.{within}
use Rattle.laws.proofs.Tests.{both_left, both_right, both_true, kept, keeps}
use Rattle.laws.proofs.Flats.{flat_ok, flat_good_lem}
use Rattle.curve.specs.CurveNumbers.{cover, soil, area, patch_within, patch_good, patches_good}
use Rattle.curve.specs.Needs.{PatchOk, PatchesOk}

-- a patch that passes is within its limits
pub patch_ok : (c s a : ℕ) → patch_within c s a ≡ true → PatchOk c s a
unfolding patch_within
patch_ok c s a e =
    let f = both_right (within 1 c 22) (within 1 s 4 && within 1 a 200000) e in
    let cs = kept 1 c 22 (both_left (within 1 c 22) (within 1 s 4 && within 1 a 200000) e) in
    let ss = kept 1 s 4 (both_left (within 1 s 4) (within 1 a 200000) f) in
    let ars = kept 1 a 200000 (both_right (within 1 s 4) (within 1 a 200000) f) in
    record {
      place = record { cover_least = cs.low; cover_most = cs.high; soil_least = ss.low; soil_most = ss.high };
      area_least = ars.low;
      area_most = ars.high;
    }

-- a list that passes is within its limits
pub patches_ok : (p : List ℕ) → patches_good p ≡ true → PatchesOk p
unfolding patches_good
patches_ok p e =
    let f = flat_ok 3 8 (patch_good p) p e in
    record {
      triples = f.whole;
      least = f.least;
      most = f.most;
      each = λ i l. patch_ok (cover p i) (soil p i) (area p i) (f.each i l);
    }

-- and passes where it is
pub patch_pass : (c s a : ℕ) → PatchOk c s a → patch_within c s a ≡ true
unfolding patch_within
patch_pass c s a ok =
    both_true (keeps 1 c 22 ok.place.cover_least ok.place.cover_most)
    (both_true (keeps 1 s 4 ok.place.soil_least ok.place.soil_most) (keeps 1 a 200000 ok.area_least ok.area_most))

-- and passes where it is
pub patches_pass : (p : List ℕ) → PatchesOk p → patches_good p ≡ true
unfolding patches_good
patches_pass p ok =
    flat_good_lem 3 8 (patch_good p) p
    (record {
      whole = ok.triples;
      least = ok.least;
      most = ok.most;
      each = λ i l. patch_pass (cover p i) (soil p i) (area p i) (ok.each i l);
    })
