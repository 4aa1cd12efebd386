-- docs/SCOPE.md, 'Travel time': a segment as a value of its kind, and its time, limits and place, kind by kind.
use Rattle.std.specs.Prelude.{◌≡◌, Bool, true, ◌&&◌, List, ℕ, Result, Ok, Err, get_or, eqb}
use Rattle.laws.specs.Pick.{pick}
use Rattle.travel.specs.declared.segment.Segment.{Segment}
use Rattle.travel.specs.declared.segment.Segment.TheVariants.{Unpaved, Paved, Given, Sheet, Channel}
use Rattle.travel.specs.declared.segment.UnknownKind.{UnknownKind}
use Rattle.travel.specs.TravelTime.{unpaved, paved, shallow, given, sheet, channel, rated_within, sheet_within, channel_within, segment_within, place_within}
use Rattle.travel.specs.Needs.{RatedOk, SheetOk, ChannelOk}

-- five numbers read as a segment
abbrev pub read : ℕ → ℕ → ℕ → ℕ → ℕ → Result Segment UnknownKind
read k L a b c =
    pick (eqb k 1) (Ok (Unpaved L a))
    (pick (eqb k 2) (Ok (Paved L a))
    (pick (eqb k 3) (Ok (Given L a))
    (pick (eqb k 4) (Ok (Sheet L a b c))
    (pick (eqb k 5) (Ok (Channel L a b c))
    (Err (record { kind = k }))))))

abbrev pub Reads : List ℕ → Result Segment UnknownKind → Type 0
Reads g r = r ≡ read (get_or g 0 0) (get_or g 1 0) (get_or g 2 0) (get_or g 3 0) (get_or g 4 0)

-- its time
abbrev pub time_of : Segment → ℕ
time_of (Unpaved L s) = shallow unpaved L s
time_of (Paved L s) = shallow paved L s
time_of (Given L v) = given L v
time_of (Sheet L n P s) = sheet L n P s
time_of (Channel L n r s) = channel L n r s

-- its limits, where sheet flow may run M ft
abbrev pub within_of : ℕ → Segment → Bool
within_of M (Unpaved L s) = rated_within L s
within_of M (Paved L s) = rated_within L s
within_of M (Given L v) = rated_within L v
within_of M (Sheet L n P s) = sheet_within M L n P s
within_of M (Channel L n r s) = channel_within L n r s

-- it may stand at place i
abbrev pub placed_of : Segment → ℕ → Bool
placed_of (Unpaved L s) i = true
placed_of (Paved L s) i = true
placed_of (Given L v) i = true
placed_of (Sheet L n P s) i = eqb i 0
placed_of (Channel L n r s) i = true

-- what its time is asked at
abbrev pub NumbersOk : Segment → Type 0
NumbersOk (Unpaved L s) = RatedOk L s
NumbersOk (Paved L s) = RatedOk L s
NumbersOk (Given L v) = RatedOk L v
NumbersOk (Sheet L n P s) = SheetOk L n P s
NumbersOk (Channel L n r s) = ChannelOk L n r s

-- the test of five numbers at place i
abbrev pub numbers_good : ℕ → ℕ → List ℕ → Bool
numbers_good M i g =
    place_within (get_or g 0 0) i && segment_within M (get_or g 0 0) (get_or g 1 0) (get_or g 2 0) (get_or g 3 0) (get_or g 4 0)
