-- What `gather` makes of a list, and what is handed on of it. No promise of an entry says anything of these.
use Rattle.std.specs.Prelude.{List, [], ℕ, zero, suc, ◌*◌, length, get_or, take, replicate, ltb}
use Rattle.std.proofs.lemmas.List.Edits.{sets}
use Rattle.laws.specs.Pick.{pick}
use Rattle.subarea.specs.Records.{width}
use Rattle.laws.specs.Limits.{most_subareas}
use Rattle.host.specs.declared.records.Subarea.{Subarea}
use Rattle.host.specs.declared.gathering.Flat.{Flat}
use Rattle.host.specs.Flattened.{record_of}

-- how many numbers there is room for
abbrev pub most_numbers : ℕ
most_numbers = most_subareas * width

-- no more records than a study takes
abbrev pub capped : ℕ → ℕ
capped n = pick (ltb n most_subareas) n most_subareas

unfoldable pub blank : Flat
blank = record { numbers = replicate most_numbers 0 }

-- record i in its place
unfoldable pub put_at : Flat → ℕ → Subarea → Flat
put_at f i s = record { numbers = sets f.numbers (i * width) (record_of s) }

-- past the end of a list
abbrev pub no_record : Subarea
no_record = record { patch_count = 0; patches = []; segment_count = 0; segments = [] }

-- the first i records put, one after the other
unfoldable pub fill_to : ℕ → List Subarea → Flat
fill_to zero ss = blank
fill_to (suc i) ss = put_at (fill_to i ss) i (get_or ss i no_record)

unfoldable pub gathered : List Subarea → Flat
gathered ss = fill_to (capped (length ss)) ss

-- the numbers of n records, none for too many
unfoldable pub used : ℕ → ℕ
used n = pick (ltb most_subareas n) 0 (width * n)

unfoldable pub handed : Flat → ℕ → List ℕ
handed f n = take (used n) f.numbers
