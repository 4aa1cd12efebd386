-- `host::gathering::put` meets its contract: the stores of a whole record, one after the other. Assumes nothing.
use mathlib.Core.Path.{ap}
use mathlib.Core.List.{List}
use Prim.Native.Nat.{ℕ, ◌*◌}
use Rattle.subarea.specs.Records.{width}
use Rattle.curve.specs.CurveNumbers.{most_patches}
use Rattle.travel.specs.TravelTime.{most_segments}
use Rattle.host.specs.Flattened.{record_of, patches_to, segments_to}
use Rattle.host.specs.Gathered.{put_at}
use Rattle.host.proofs.Stores.{record_stores, patches_length}
use Rattle.host.proofs.gathering.put.Goals as goal

pub returns : goal.returns
unfolding put_at record_of
returns c =
    let a = c.args in
    ap (λ (ns : List ℕ). record { numbers = ns })
    (record_stores a.flat.numbers _ c.put_segments.new.to (patches_to most_patches a.own.patches) (segments_to most_segments a.own.segments) (a.i * width) a.own.patch_count a.own.segment_count
    (patches_length most_patches a.own.patches) c.put_patches.ensures c.put_segments.ensures)
