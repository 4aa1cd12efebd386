-- What refusals 6 and 7 leave of a record. Assumes nothing.
use mathlib.Core.Path.{◌≡◌, refl, sym, ap, ◌∙◌}
use mathlib.Core.Bool.{Bool, true, not}
use mathlib.Core.List.{List, []}
use Prim.Native.Nat.{ℕ, ◌+◌, ◌*◌, ◌≤◌, ◌<◌}
use native.Mathlib.Omega.{arith}
use lib.ListN.{length, length-take, length-drop, get_or}
use Rattle.std.specs.Simd.{first_chunks}
use Rattle.std.specs.List.{position_or_len}
use Rattle.std.specs.Prelude.{position}
use Rattle.std.proofs.lemmas.List.Sums.{position_or_len_is}
use Rattle.laws.specs.Scan.{scan}
use Rattle.laws.specs.Search.{first_bad_of}
use Rattle.laws.proofs.Scans.{scan_most, scan_bad, scan_before}
use Rattle.laws.proofs.Places.{search_scan}
use Rattle.laws.specs.Within.{within}
use Rattle.laws.proofs.Chunks.{chunks_length, chunk_at}
use Rattle.laws.proofs.Tests.{Kept, kept, both_left, both_right}
use Rattle.curve.specs.CurveNumbers.{patches_good}
use Rattle.curve.specs.Needs.{PatchesOk}
use Rattle.curve.proofs.Limits.{patches_ok}
use Rattle.travel.specs.TravelTime.{most_segments, sheet_limit, segments_good}
use Rattle.travel.specs.Needs.{SheetsWithin}
use Rattle.travel.proofs.Limits.{limit_far, segments_ok, segments_short}
use Rattle.subarea.specs.Records.{width, records_in, record_at, patch_count, patches, segment_count, segments, patches_pass, segments_pass}
use Rattle.subarea.specs.Needs.{RecordsOk, RoutedOk}

-- the records of a flat list
abbrev pub listed : List ℕ → List (List ℕ)
listed s = first_chunks width (records_in s) s

-- what stands at place i of them
pub record RecordAt (s : List ℕ) (list : List (List ℕ)) (i : ℕ) : Type 0 where
  pub inside : i < records_in s
  pub own : get_or list i [] ≡ record_at s i

pub listed_length : (s : List ℕ) → length (listed s) ≡ records_in s
listed_length s = chunks_length width (records_in s) s

pub listed_at : {s : List ℕ} {list : List (List ℕ)} {i : ℕ} → list ≡ listed s → i < length list → RecordAt s list i
listed_at {s} {list} {i} e l =
    let h : i < records_in s = rw (e, listed_length s) at l in
    record { inside = h; own = rw e (chunk_at width (records_in s) s i h) }

-- the first record of the list that fails a test is the first by places
module _ (good : List ℕ → Bool) (s : List ℕ) where
  abbrev n : ℕ
  n = records_in s

  abbrev stop : ℕ
  stop = scan (λ i. good (record_at s i)) n 0

  long : length (listed s) ≡ n
  long = listed_length s

  most : stop ≤ n
  most = omega (arith, scan_most (λ i. good (record_at s i)) n 0)

  place : position_or_len (λ r. not (good r)) (listed s) ≡ stop
  place =
      position_or_len_is
      (λ r. not (good r))
      (listed s)
      stop
      []
      (omega (arith, long, most))
      (λ k h. ap (λ r. not (good r)) (listed_at {s = s} {list = listed s} {i = k} refl (omega (arith, h, long, most))).own ∙ ap not (scan_before (λ i. good (record_at s i)) n 0 k (omega arith) h))
      (λ h. let l : stop < n = omega (arith, h, long) in ap (λ r. not (good r)) (listed_at {s = s} {list = listed s} {i = stop} refl h).own ∙ ap not (scan_bad (λ i. good (record_at s i)) n 0 (omega (arith, l))))

  pub first_record : position (λ r. not (good r)) (listed s) ≡ first_bad_of (λ i. good (record_at s i)) (records_in s)
  first_record = rw (place, long) (sym (search_scan (λ i. good (record_at s i)) n))

module _ (r : List ℕ) where
  -- its patches are few, and within their limits
  pub patches_few : patches_pass r ≡ true → Kept 1 (patch_count r) 8
  unfolding patches_pass
  patches_few e = kept 1 (patch_count r) 8 (both_left (within 1 (patch_count r) 8) (patches_good (patches r)) e)

  pub patches_fit : patches_pass r ≡ true → PatchesOk (patches r)
  unfolding patches_pass
  patches_fit e = patches_ok (patches r) (both_right (within 1 (patch_count r) 8) (patches_good (patches r)) e)

  -- and so are its segments, whatever the sheet rule
  pub segments_fit : (rule : ℕ) → segments_pass rule r ≡ true → RoutedOk r
  unfolding segments_pass
  segments_fit rule e =
      let few = within 1 (segment_count r) most_segments in
      let good = segments_good (sheet_limit rule) (segments r) in
      let count = kept 1 (segment_count r) most_segments (both_left few good e) in
      record { least = count.low; most = count.high; fits = segments_ok (sheet_limit rule) (segments r) (limit_far rule) (both_right few good e) }

  -- and its sheet flow runs no farther than the rule lets it
  pub sheets_fit : (rule : ℕ) → segments_pass rule r ≡ true → SheetsWithin (sheet_limit rule) (segments r)
  unfolding segments_pass
  sheets_fit rule e = segments_short (sheet_limit rule) (segments r) (both_right (within 1 (segment_count r) most_segments) (segments_good (sheet_limit rule) (segments r)) e)

module _ (s : List ℕ) (ok : RecordsOk s) where
  -- a record of the list is whole
  pub record_length : (i : ℕ) → i < records_in s → length (record_at s i) ≡ width
  record_length i l = simp (length-take, length-drop) (omega (arith, ok.whole))

  -- and lies in it
  pub record_inside : (i : ℕ) → i < records_in s → width * i + width ≤ length s
  record_inside i l = omega (arith, ok.whole)
