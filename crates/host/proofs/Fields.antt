-- The engine reads a record's counts, patches and segments where `record_of` puts them. Assumes nothing.
use mathlib.Core.Path.{◌≡◌, refl, sym, ap, ◌∙◌}
use mathlib.Core.Logic.{⊎_elim}
use Prim.Native.Nat.{ℕ, zero, suc, ◌*◌, ◌≤◌}
use native.Mathlib.Nat.{le_antisymm}
use native.Mathlib.Omega.{arith}
use mathlib.Core.List.{List, ◌∷◌, ◌++◌}
use lib.ListN.{length, get_or, take, drop}
use lib.Seq.{take-nil, take_all, take-append-le, drop-drop, drop_at, get_or_at}
use Rattle.laws.proofs.Num.{below_or_not}
use Rattle.curve.specs.CurveNumbers.{most_patches, patch_width}
use Rattle.travel.specs.TravelTime.{most_segments, segment_width}
use Rattle.subarea.specs.Records.{segment_count_at, segments_from, patch_count, patches, segment_count, segments}
use Rattle.host.specs.declared.records.Patch.{Patch}
use Rattle.host.specs.declared.records.Segment.{Segment}
use Rattle.host.specs.declared.records.Subarea.{Subarea}
use Rattle.host.specs.Flattened.{no_patch, no_segment, patch_numbers, segment_numbers, patches_to, segments_to, record_of}
use Rattle.host.proofs.Stores.{patches_length, segments_length}

-- the first k of n
patches_first : (k n : ℕ) (ps : List Patch) → k ≤ n → take (patch_width * k) (patches_to n ps) ≡ patches_to k ps
unfolding patches_to
patches_first k zero ps h = let e : 0 ≡ k = omega (arith, h) in take-nil (patch_width * k) ∙ ap (λ (j : ℕ). patches_to j ps) e
patches_first k (suc n) ps h =
    ⊎_elim
    (λ l. take-append-le (patch_width * k) (patches_to n ps) (patch_numbers (get_or ps n no_patch)) (omega (arith, l, patches_length n ps)) ∙ patches_first k n ps (omega (arith, l)))
    (λ l. take_all (patch_width * k) (patches_to (suc n) ps) (omega (arith, l, patches_length (suc n) ps)) ∙ ap (λ (j : ℕ). patches_to j ps) (le_antisymm l h))
    (below_or_not k (suc n))

segments_first : (k n : ℕ) (gs : List Segment) → k ≤ n → take (segment_width * k) (segments_to n gs) ≡ segments_to k gs
unfolding segments_to
segments_first k zero gs h = let e : 0 ≡ k = omega (arith, h) in take-nil (segment_width * k) ∙ ap (λ (j : ℕ). segments_to j gs) e
segments_first k (suc n) gs h =
    ⊎_elim
    (λ l. take-append-le (segment_width * k) (segments_to n gs) (segment_numbers (get_or gs n no_segment)) (omega (arith, l, segments_length n gs)) ∙ segments_first k n gs (omega (arith, l)))
    (λ l. take_all (segment_width * k) (segments_to (suc n) gs) (omega (arith, l, segments_length (suc n) gs)) ∙ ap (λ (j : ℕ). segments_to j gs) (le_antisymm l h))
    (below_or_not k (suc n))

module _ (s : Subarea) where
  abbrev front : List ℕ
  front = s.patch_count ∷ patches_to most_patches s.patches

  front_length : length front ≡ segment_count_at
  front_length = ap suc (patches_length most_patches s.patches)

  pub patch_count_read : patch_count (record_of s) ≡ s.patch_count
  unfolding record_of
  patch_count_read = refl

  pub segment_count_read : segment_count (record_of s) ≡ s.segment_count
  unfolding record_of
  segment_count_read = get_or_at front s.segment_count (segments_to most_segments s.segments) 0 segment_count_at front_length

  -- the patches and the segments within the counts
  pub patches_read : s.patch_count ≤ most_patches → patches (record_of s) ≡ patches_to s.patch_count s.patches
  unfolding record_of
  patches_read h =
      take-append-le (patch_width * s.patch_count) (patches_to most_patches s.patches) (s.segment_count ∷ segments_to most_segments s.segments) (omega (arith, h, patches_length most_patches s.patches))
      ∙ patches_first s.patch_count most_patches s.patches h

  pub segments_read : s.segment_count ≤ most_segments → segments (record_of s) ≡ segments_to s.segment_count s.segments
  unfolding record_of
  segments_read h =
      ap (λ (n : ℕ). take (segment_width * n) (drop segments_from (front ++ (s.segment_count ∷ segments_to most_segments s.segments)))) segment_count_read
      ∙ ap (λ (l : List ℕ). take (segment_width * s.segment_count) l)
      (sym (drop-drop 1 segment_count_at (front ++ (s.segment_count ∷ segments_to most_segments s.segments))) ∙ ap (drop 1) (drop_at front (s.segment_count ∷ segments_to most_segments s.segments) segment_count_at front_length))
      ∙ segments_first s.segment_count most_segments s.segments h
