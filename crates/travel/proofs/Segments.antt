-- What is read of five numbers is the segment that they stand for: its time, its limits and its place are theirs. Assumes nothing.
use mathlib.Core.Path.{◌≡◌, refl, sym, ap, ◌∙◌, subst}
use mathlib.Core.Bool.{Bool, true, false, ◌&&◌}
use mathlib.Core.List.{List, []}
use Prim.Native.Nat.{ℕ, ◌+◌, ◌%◌, ◌<◌}
use lib.ListN.{length, get_or}
use lib.Dec.{eqb}
use native.Mathlib.Omega.{arith}
use borrow.Author.Tests.{eqb-true, eqb-false}
use Rattle.std.specs.Prelude.{Result, Ok, Err, MatchResult, ⊤}
use Rattle.std.specs.Simd.{first_chunks}
use Rattle.std.specs.List.{list_all, enumerate_from}
use Rattle.std.proofs.lemmas.List.FromFn.{length-enumerate_from, get_or-enumerate_from}
use Rattle.laws.specs.Flat.{flat_good}
use Rattle.laws.specs.Within.{within}
use Rattle.laws.proofs.Tests.{by_test, kept}
use Rattle.laws.proofs.Chunks.{chunks_length, chunk_number, all_places}
use Rattle.travel.specs.declared.segment.Segment.{Segment}
use Rattle.travel.specs.declared.segment.Segment.TheVariants.{Unpaved, Paved, Given, Sheet, Channel}
use Rattle.travel.specs.declared.segment.UnknownKind.{UnknownKind}
use Rattle.travel.specs.TravelTime.{segments_in, number_of, kind, segment_time, segment_within, place_within, segment_good, segments_good}
use Rattle.travel.specs.Needs.{SegmentOk}
use Rattle.travel.specs.Segments.{read, time_of, within_of, placed_of, NumbersOk, numbers_good}

module _ (k L a b c : ℕ) where
  -- what is read is of one of five kinds, or of none
  pub read_cases : (P : Result Segment UnknownKind → Type 0)
      → (k ≡ 1 → P (Ok (Unpaved L a))) → (k ≡ 2 → P (Ok (Paved L a))) → (k ≡ 3 → P (Ok (Given L a))) → (k ≡ 4 → P (Ok (Sheet L a b c))) → (k ≡ 5 → P (Ok (Channel L a b c)))
      → (eqb k 1 ≡ false → eqb k 2 ≡ false → eqb k 3 ≡ false → eqb k 4 ≡ false → eqb k 5 ≡ false → P (Err (record { kind = k })))
      → P (read k L a b c)
  read_cases P p q r s t u =
      by_test P (eqb k 1) _ _ (λ e. p (eqb-true k 1 e))
      (λ one. by_test P (eqb k 2) _ _ (λ e. q (eqb-true k 2 e))
      (λ two. by_test P (eqb k 3) _ _ (λ e. r (eqb-true k 3 e))
      (λ three. by_test P (eqb k 4) _ _ (λ e. s (eqb-true k 4 e))
      (λ four. by_test P (eqb k 5) _ _ (λ e. t (eqb-true k 5 e)) (u one two three four)))))

  -- its time is the numbers'
  pub read_time : MatchResult (read k L a b c) (λ s. segment_time k L a b c ≡ time_of s) (λ e. ⊤)
  unfolding segment_time
  read_time =
      read_cases (λ r. MatchResult r (λ s. segment_time k L a b c ≡ time_of s) (λ e. ⊤))
      (λ e. rw e refl) (λ e. rw e refl) (λ e. rw e refl) (λ e. rw e refl) (λ e. rw e refl) (λ _ _ _ _ _. tt)

  -- and so are its limits and its place
  pub read_good : (M i : ℕ) → MatchResult (read k L a b c) (λ s. (place_within k i && segment_within M k L a b c) ≡ (placed_of s i && within_of M s)) (λ e. (place_within k i && segment_within M k L a b c) ≡ false)
  unfolding segment_within place_within
  read_good M i =
      read_cases (λ r. MatchResult r (λ s. (place_within k i && segment_within M k L a b c) ≡ (placed_of s i && within_of M s)) (λ e. (place_within k i && segment_within M k L a b c) ≡ false))
      (λ e. rw e refl) (λ e. rw e refl) (λ e. rw e refl) (λ e. rw e refl) (λ e. rw e refl)
      (λ one two three four five. rw (low one two three, four, five) refl)
    where
      low : eqb k 1 ≡ false → eqb k 2 ≡ false → eqb k 3 ≡ false → within 1 k 3 ≡ false
      low one two three =
          go (within 1 k 3) refl
        where
          go : (t : Bool) → within 1 k 3 ≡ t → within 1 k 3 ≡ false
          go true e = absurd (omega (arith, (kept 1 k 3 e).low, (kept 1 k 3 e).high, eqb-false k 1 one, eqb-false k 2 two, eqb-false k 3 three))
          go false e = e

  -- numbers within their limits are read, and what is read is within its own
  pub read_ok : SegmentOk k L a b c → MatchResult (read k L a b c) NumbersOk (λ e. ⊥)
  read_ok ok =
      read_cases (λ r. MatchResult r NumbersOk (λ e. ⊥))
      (λ e. ok.rated (omega (arith, e))) (λ e. ok.rated (omega (arith, e))) (λ e. ok.rated (omega (arith, e))) ok.sheeted ok.channelled
      (λ one two three four five. omega (arith, ok.kind_least, ok.kind_most, eqb-false k 1 one, eqb-false k 2 two, eqb-false k 3 three, eqb-false k 4 four, eqb-false k 5 five))

  -- the same where the numbers are read as s, or not
  pub time_ok : (s : Segment) → Ok s ≡ read k L a b c → segment_time k L a b c ≡ time_of s
  time_ok s e = subst (λ (r : Result Segment UnknownKind). MatchResult r (λ s. segment_time k L a b c ≡ time_of s) (λ e. ⊤)) (sym e) read_time

  pub good_ok : (M i : ℕ) (s : Segment) → Ok s ≡ read k L a b c → (place_within k i && segment_within M k L a b c) ≡ (placed_of s i && within_of M s)
  good_ok M i s e = subst (λ (r : Result Segment UnknownKind). MatchResult r (λ s. (place_within k i && segment_within M k L a b c) ≡ (placed_of s i && within_of M s)) (λ e. (place_within k i && segment_within M k L a b c) ≡ false)) (sym e) (read_good M i)

  pub good_err : (M i : ℕ) (u : UnknownKind) → Err u ≡ read k L a b c → (place_within k i && segment_within M k L a b c) ≡ false
  good_err M i u e = subst (λ (r : Result Segment UnknownKind). MatchResult r (λ s. (place_within k i && segment_within M k L a b c) ≡ (placed_of s i && within_of M s)) (λ e. (place_within k i && segment_within M k L a b c) ≡ false)) (sym e) (read_good M i)

-- what stands at place i of the segments of a list, as arrays
abbrev pub listed : List ℕ → List (List ℕ)
listed g = first_chunks 5 (segments_in g) g

pub record SegmentAt (g : List ℕ) (list : List (List ℕ)) (i : ℕ) : Type 0 where
  pub inside : i < segments_in g
  pub first : get_or (get_or list i []) 0 0 ≡ kind g i
  pub second : get_or (get_or list i []) 1 0 ≡ number_of g i 1
  pub third : get_or (get_or list i []) 2 0 ≡ number_of g i 2
  pub fourth : get_or (get_or list i []) 3 0 ≡ number_of g i 3
  pub fifth : get_or (get_or list i []) 4 0 ≡ number_of g i 4

pub segment_at : {g : List ℕ} {list : List (List ℕ)} {i : ℕ} → list ≡ listed g → i < length list → SegmentAt g list i
segment_at {g} {list} {i} e l =
    let h : i < segments_in g = rw (e, chunks_length 5 (segments_in g) g) at l in
    record {
      inside = h;
      first = rw e (chunk_number 5 (segments_in g) g i 0 h (omega arith));
      second = rw e (chunk_number 5 (segments_in g) g i 1 h (omega arith));
      third = rw e (chunk_number 5 (segments_in g) g i 2 h (omega arith));
      fourth = rw e (chunk_number 5 (segments_in g) g i 3 h (omega arith));
      fifth = rw e (chunk_number 5 (segments_in g) g i 4 h (omega arith));
    }

-- the test of a list is that of its segments, each at its place
pub segments_each : (M : ℕ) (g : List ℕ) → segments_good M g ≡ (eqb (length g % 5) 0 && (within 1 (segments_in g) 6 && list_all (λ t. numbers_good M t.0 t.1) (enumerate_from 0 (listed g))))
unfolding segments_good flat_good
segments_each M g =
    let many : length (enumerate_from 0 (listed g)) ≡ segments_in g = length-enumerate_from 0 (listed g) ∙ chunks_length 5 (segments_in g) g in
    ap (λ (b : Bool). eqb (length g % 5) 0 && (within 1 (segments_in g) 6 && b)) (sym (rw many at (all_places (0, []) (λ t. numbers_good M t.0 t.1) (segment_good M g) (enumerate_from 0 (listed g)) (λ i l. here i (rw many at l)))))
  where
    here : (i : ℕ) → i < segments_in g → numbers_good M (get_or (enumerate_from 0 (listed g)) i (0, [])).0 (get_or (enumerate_from 0 (listed g)) i (0, [])).1 ≡ segment_good M g i
    here i l =
        let h : i < length (listed g) = rw (chunks_length 5 (segments_in g) g) l in
        let a = segment_at {g = g} {list = listed g} {i = i} refl h in
        let z : 0 + i ≡ i = omega arith in
        rw (get_or-enumerate_from 0 (listed g) i (0, []) h, z, a.first, a.second, a.third, a.fourth, a.fifth)
