-- Of a list that a study takes, what is handed on is the list flattened; of one with too many records, nothing. Assumes nothing.
use mathlib.Core.Path.{◌≡◌, refl, sym, ap, ◌∙◌}
use mathlib.Core.Bool.{Bool, true, false}
use Prim.Native.Nat.{ℕ, zero, suc, ◌+◌, ◌*◌, ◌≤◌, ◌<◌}
use native.Mathlib.Omega.{arith}
use mathlib.Core.List.{List, [], ◌∷◌, ◌++◌, append_assoc, append-nil}
use lib.ListN.{length, get_or, take, drop, length-append, length-replicate}
use lib.Seq.{sets, sets-eq, take_at}
use lib.Dec.{ltb}
use borrow.Author.Tests.{lt-ltb, le-ltb, ltb-true, ltb-false}
use Rattle.laws.specs.Pick.{pick}
use Rattle.subarea.specs.Records.{width}
use Rattle.curve.specs.CurveNumbers.{most_patches}
use Rattle.travel.specs.TravelTime.{most_segments}
use Rattle.laws.specs.Limits.{most_subareas}
use Rattle.host.specs.declared.records.Subarea.{Subarea}
use Rattle.host.specs.Flattened.{patches_to, segments_to, record_of, flat_of}
use Rattle.host.specs.Gathered.{most_numbers, capped, blank, put_at, no_record, fill_to, gathered, used, handed}
use Rattle.host.proofs.Stores.{sets_on, patches_length, segments_length}

lesser : (n : ℕ) (t : Bool) → ltb n most_subareas ≡ t → (pick t n most_subareas ≤ n) × (pick t n most_subareas ≤ most_subareas)
lesser n true e = (omega arith, omega (arith, ltb-true n most_subareas e))
lesser n false e = (omega (arith, ltb-false n most_subareas e), omega arith)

pub capped_least : (n : ℕ) → (capped n ≤ n) × (capped n ≤ most_subareas)
capped_least n = lesser n (ltb n most_subareas) refl

-- a record is so wide
pub record_length : (s : Subarea) → length (record_of s) ≡ width
unfolding record_of
record_length s =
    length-append (s.patch_count ∷ patches_to most_patches s.patches) (s.segment_count ∷ segments_to most_segments s.segments)
    ∙ omega (arith, patches_length most_patches s.patches, segments_length most_segments s.segments)

pub flat_length : (ss : List Subarea) → length (flat_of ss) ≡ width * length ss
unfolding flat_of
flat_length [] = refl
flat_length (s ∷ ss) = length-append (record_of s) (flat_of ss) ∙ omega (arith, record_length s, flat_length ss)

-- the numbers of the first i records, from the end
unfoldable flat_to : ℕ → List Subarea → List ℕ
flat_to zero ss = []
flat_to (suc i) ss = flat_to i ss ++ record_of (get_or ss i no_record)

to_length : (i : ℕ) (ss : List Subarea) → length (flat_to i ss) ≡ i * width
unfolding flat_to
to_length zero ss = refl
to_length (suc i) ss = length-append (flat_to i ss) (record_of (get_or ss i no_record)) ∙ omega (arith, to_length i ss, record_length (get_or ss i no_record))

-- what is filled is one run of stores
filled : (i : ℕ) (ss : List Subarea) → (fill_to i ss).numbers ≡ sets blank.numbers 0 (flat_to i ss)
unfolding fill_to flat_to put_at
filled zero ss = refl
filled (suc i) ss =
    let z = record_of (get_or ss i no_record) in
    ap (λ (l : List ℕ). sets l (i * width) z) (filled i ss)
    ∙ ap (λ (n : ℕ). sets (sets blank.numbers 0 (flat_to i ss)) n z) (sym (omega (arith, to_length i ss)))
    ∙ sets_on (flat_to i ss) z blank.numbers 0

blank_length : length blank.numbers ≡ most_numbers
unfolding blank
blank_length = length-replicate {A = ℕ} most_numbers 0

first_filled : (i : ℕ) (ss : List Subarea) → i ≤ most_subareas → take (width * i) (fill_to i ss).numbers ≡ flat_to i ss
first_filled i ss h =
    ap (λ (l : List ℕ). take (width * i) l) (filled i ss ∙ sets-eq (flat_to i ss) blank.numbers 0 (omega (arith, to_length i ss, blank_length)))
    ∙ take_at (flat_to i ss) (drop (0 + length (flat_to i ss)) blank.numbers) (width * i) (omega (arith, to_length i ss))

-- from the end and from the start
to_cons : (i : ℕ) (s : Subarea) (ss : List Subarea) → flat_to (suc i) (s ∷ ss) ≡ record_of s ++ flat_to i ss
unfolding flat_to
to_cons zero s ss = sym (append-nil (record_of s))
to_cons (suc i) s ss =
    ap (λ (l : List ℕ). l ++ record_of (get_or ss i no_record)) (to_cons i s ss) ∙ append_assoc (record_of s) (flat_to i ss) (record_of (get_or ss i no_record))

to_all : (ss : List Subarea) → flat_to (length ss) ss ≡ flat_of ss
unfolding flat_to flat_of
to_all [] = refl
to_all (s ∷ ss) = to_cons (length ss) s ss ∙ ap (λ (l : List ℕ). record_of s ++ l) (to_all ss)

capped_small : (n : ℕ) → n ≤ most_subareas → capped n ≡ n
capped_small n h = go (ltb n most_subareas) refl
  where
    go : (t : Bool) → ltb n most_subareas ≡ t → pick t n most_subareas ≡ n
    go true e = refl
    go false e = omega (arith, h, ltb-false n most_subareas e)

gathered_flat : (ss : List Subarea) → length ss ≤ most_subareas → take (width * length ss) (gathered ss).numbers ≡ flat_of ss
unfolding gathered
gathered_flat ss h =
    ap (λ (n : ℕ). take (width * length ss) (fill_to n ss).numbers) (capped_small (length ss) h) ∙ first_filled (length ss) ss h ∙ to_all ss

pub handed_flat : (ss : List Subarea) → length ss ≤ most_subareas → handed (gathered ss) (length ss) ≡ flat_of ss
unfolding handed used
handed_flat ss h = rw (le-ltb most_subareas (length ss) h) (gathered_flat ss h)

pub handed_none : (ss : List Subarea) → most_subareas < length ss → handed (gathered ss) (length ss) ≡ []
unfolding handed used
handed_none ss h = simp (lt-ltb most_subareas (length ss) h)

-- no more is handed on than there is room for
pub used_most : (n : ℕ) → used n ≤ most_numbers
unfolding used
used_most n = go (ltb most_subareas n) refl
  where
    go : (t : Bool) → ltb most_subareas n ≡ t → pick t 0 (width * n) ≤ most_numbers
    go true e = omega arith
    go false e = omega (arith, ltb-false most_subareas n e)
