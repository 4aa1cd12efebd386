-- Runs of stores, one after the other, and the lengths of a record's numbers. Assumes nothing.
use mathlib.Core.Path.{◌≡◌, refl, sym, ap, ◌∙◌}
use Prim.Native.Nat.{ℕ, zero, suc, ◌+◌, ◌*◌}
use native.Mathlib.Nat.{add-zero, add-suc, suc-add}
use native.Mathlib.Numerals.{add-one}
use native.Mathlib.Omega.{arith}
use mathlib.Core.List.{List, [], ◌∷◌, ◌++◌}
use lib.ListN.{length, get_or, set, length-append}
use lib.Seq.{sets}
use Rattle.curve.specs.CurveNumbers.{most_patches, patch_width}
use Rattle.subarea.specs.Records.{patches_from, segment_count_at, segments_from}
use Rattle.travel.specs.TravelTime.{segment_width}
use Rattle.host.specs.Flattened.{no_patch, no_segment, patch_numbers, segment_numbers, patches_to, segments_to}
use Rattle.host.specs.declared.records.Patch.{Patch}
use Rattle.host.specs.declared.records.Segment.{Segment}

-- one run after another is one run
pub sets_on : (vs ws l : List ℕ) (i : ℕ) → sets (sets l i vs) (i + length vs) ws ≡ sets l i (vs ++ ws)
sets_on [] ws l i = ap (λ (k : ℕ). sets l k ws) (add-zero i)
sets_on (a ∷ vs) ws l i =
    ap (λ (k : ℕ). sets (sets (set l i a) (suc i) vs) k ws) (add-suc i (length vs) ∙ sym (suc-add i (length vs))) ∙ sets_on vs ws (set l i a) (suc i)

pub sets_at : (vs ws l : List ℕ) (i n : ℕ) → length vs ≡ n → sets (sets l i vs) (i + n) ws ≡ sets l i (vs ++ ws)
sets_at vs ws l i n e = ap (λ (k : ℕ). sets (sets l i vs) (i + k) ws) (sym e) ∙ sets_on vs ws l i

pub patches_length : (k : ℕ) (ps : List Patch) → length (patches_to k ps) ≡ patch_width * k
unfolding patches_to
patches_length zero ps = refl
patches_length (suc k) ps = length-append (patches_to k ps) (patch_numbers (get_or ps k no_patch)) ∙ omega (arith, patches_length k ps)

pub segments_length : (k : ℕ) (gs : List Segment) → length (segments_to k gs) ≡ segment_width * k
unfolding segments_to
segments_length zero gs = refl
segments_length (suc k) gs = length-append (segments_to k gs) (segment_numbers (get_or gs k no_segment)) ∙ omega (arith, segments_length k gs)

-- one element more
pub patches_next : (k : ℕ) (ps : List Patch) → patches_to k ps ++ patch_numbers (get_or ps k no_patch) ≡ patches_to (k + 1) ps
unfolding patches_to
patches_next k ps = ap (λ (n : ℕ). patches_to n ps) (sym (add-one k))

pub segments_next : (k : ℕ) (gs : List Segment) → segments_to k gs ++ segment_numbers (get_or gs k no_segment) ≡ segments_to (k + 1) gs
unfolding segments_to
segments_next k gs = ap (λ (n : ℕ). segments_to n gs) (sym (add-one k))

-- a turn of a loop
pub patches_step : (l xs ys : List ℕ) (at k : ℕ) (ps : List Patch) → xs ≡ sets l at (patches_to k ps) → ys ≡ sets xs (at + patch_width * k) (patch_numbers (get_or ps k no_patch)) → ys ≡ sets l at (patches_to (k + 1) ps)
patches_step l xs ys at k ps e d =
    d ∙ ap (λ (zs : List ℕ). sets zs (at + patch_width * k) (patch_numbers (get_or ps k no_patch))) e ∙ sets_at (patches_to k ps) (patch_numbers (get_or ps k no_patch)) l at (patch_width * k) (patches_length k ps)
    ∙ ap (λ (vs : List ℕ). sets l at vs) (patches_next k ps)

pub segments_step : (l xs ys : List ℕ) (at k : ℕ) (gs : List Segment) → xs ≡ sets l at (segments_to k gs) → ys ≡ sets xs (at + segment_width * k) (segment_numbers (get_or gs k no_segment)) → ys ≡ sets l at (segments_to (k + 1) gs)
segments_step l xs ys at k gs e d =
    d ∙ ap (λ (zs : List ℕ). sets zs (at + segment_width * k) (segment_numbers (get_or gs k no_segment))) e ∙ sets_at (segments_to k gs) (segment_numbers (get_or gs k no_segment)) l at (segment_width * k) (segments_length k gs)
    ∙ ap (λ (vs : List ℕ). sets l at vs) (segments_next k gs)

-- a whole record: a number, a run, a number, a run
pub record_stores : (f xs ys P G : List ℕ) (at a b : ℕ) → length P ≡ patch_width * most_patches → xs ≡ sets (set f at a) (at + patches_from) P → ys ≡ sets (set xs (at + segment_count_at) b) (at + segments_from) G
    → ys ≡ sets f at ((a ∷ P) ++ (b ∷ G))
record_stores f xs ys P G at a b len e d =
    d ∙ ap (λ (n : ℕ). sets (set xs (at + segment_count_at) b) n G) (omega arith)
    ∙ ap (λ (zs : List ℕ). sets (set zs (at + segment_count_at) b) (suc (at + segment_count_at)) G) (e ∙ ap (λ (n : ℕ). sets (set f at a) n P) (add-one at))
    ∙ sets_at (a ∷ P) (b ∷ G) f at segment_count_at (ap suc len)
