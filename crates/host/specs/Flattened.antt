-- Document 01, 'What a study is made of': a list of records as one flat list of numbers.
use Rattle.std.specs.Prelude.{List, [], ◌∷◌, ◌++◌, ℕ, zero, suc, ◌-◌, get_or, take, drop}
use Rattle.curve.specs.CurveNumbers.{most_patches}
use Rattle.travel.specs.TravelTime.{most_segments}
use Rattle.subarea.specs.declared.Setup.{Setup}
use Rattle.checks.specs.Site.{Site}
use Rattle.host.specs.declared.records.Patch.{Patch}
use Rattle.host.specs.declared.records.Segment.{Segment}
use Rattle.host.specs.declared.records.Subarea.{Subarea}

abbrev pub patch_numbers : Patch → List ℕ
patch_numbers p = p.cover ∷ p.soil ∷ p.area ∷ []

abbrev pub segment_numbers : Segment → List ℕ
segment_numbers g = g.kind ∷ g.length ∷ g.third ∷ g.fourth ∷ g.fifth ∷ []

-- a record's arrays are full, so that neither of these is read
abbrev pub no_patch : Patch
no_patch = record { cover = 0; soil = 0; area = 0 }

abbrev pub no_segment : Segment
no_segment = record { kind = 0; length = 0; third = 0; fourth = 0; fifth = 0 }

-- the numbers of the first k patches, of the first k segments
unfoldable pub patches_to : ℕ → List Patch → List ℕ
patches_to zero ps = []
patches_to (suc k) ps = patches_to k ps ++ patch_numbers (get_or ps k no_patch)

unfoldable pub segments_to : ℕ → List Segment → List ℕ
segments_to zero gs = []
segments_to (suc k) gs = segments_to k gs ++ segment_numbers (get_or gs k no_segment)

-- a record's numbers: patch count, patches, segment count, segments
unfoldable pub record_of : Subarea → List ℕ
record_of s = (s.patch_count ∷ patches_to most_patches s.patches) ++ (s.segment_count ∷ segments_to most_segments s.segments)

-- the records, one after the other
unfoldable pub flat_of : List Subarea → List ℕ
flat_of [] = []
flat_of (s ∷ ss) = record_of s ++ flat_of ss

-- the list with record n in place k, from 1
abbrev pub put_in : List Subarea → ℕ → Subarea → List Subarea
put_in ss k n = take (k - 1) ss ++ (n ∷ drop k ss)

-- a site whose subareas are such a list
abbrev pub list_site : Setup → List ℕ → List ℕ → List ℕ → Site
list_site g rain s p = record { setup = g; rain = rain; subareas = s; pond = p }
