-- `textbook::add_record` meets its contract. Assumes nothing.
use mathlib.Core.Path.{◌≡◌, refl, sym, ap, ◌∙◌, subst}
use mathlib.Core.List.{List}
use Prim.Native.Nat.{ℕ, ◌+◌, ◌≤◌}
use native.Mathlib.Omega.{arith}
use lib.ListN.{length, take, replicate}
use lib.Seq.{length-take-le}
use Rattle.laws.specs.Limits.{most_rows}
use Rattle.laws.specs.Listed.{plus}
use Rattle.laws.proofs.Listed.{plus_same}
use Rattle.curve.specs.declared.Ground.{Ground}
use Rattle.curve.specs.Needs.{CurveOk}
use Rattle.curve.proofs.Mean.{composite_ok}
use Rattle.hydrograph.specs.Needs.{TimingOk}
use Rattle.subarea.specs.Records.{patches, area_of, curve_tenths}
use Rattle.subarea.proofs.Subareas.{patches_fit}
use Rattle.textbook.specs.Textbook.{rain_steps, part_laid}
use Rattle.textbook.proofs.Pieces.{blank_ok, front_long, front_filled, added_ok, parts_are, sums_ok}
use Rattle.textbook.proofs.add_record.Goals as goal
use Rattle.textbook.proofs.add_record.Goals.{After-fill_added, Start}

-- the entry, and the area and curve number of the record, once its runoffs are filled in
abbrev S : After-fill_added → Start
S f = (goal.at.After-fill_added f).Start

abbrev ground : After-fill_added → Ground
ground f = f.ground-ground.result

abbrev peak : After-fill_added → ℕ
peak f = f.peak-peak.result

curved : (f : After-fill_added) → (ground f).tenths ≡ curve_tenths (S f).args.own.now
curved f = ap (λ (z : Ground). z.tenths) f.ground-ground.ensures

wide : (f : After-fill_added) → (ground f).area ≡ area_of (S f).args.own.now
wide f = ap (λ (z : Ground). z.area) f.ground-ground.ensures

curve_ok : (f : After-fill_added) → CurveOk (ground f).tenths
curve_ok f = rw (curved f) (composite_ok (patches (S f).args.own.now) (patches_fit (S f).args.own.now (S f).requires.0.patched))

timing_ok : (f : After-fill_added) → TimingOk (S f).args.setup.step (peak f)
timing_ok f = subst (TimingOk (S f).args.setup.step) (sym f.peak-peak.ensures) (S f).requires.0.timed

rows_few : (f : After-fill_added) → length (S f).args.rows.now ≤ 2000
rows_few f = (S f).requires.1.1.1.1.most

pub fill_added-requires : goal.fill_added-requires
fill_added-requires c =
    let e : c.ground-ground.result.tenths ≡ curve_tenths c.args.own.now = ap (λ (z : Ground). z.tenths) c.ground-ground.ensures in
    (rw e (composite_ok (patches c.args.own.now) (patches_fit c.args.own.now c.requires.0.patched)), (c.requires.1.1.0, (c.requires.1.1.1.0, refl)))

pub slice_bounds-more-end : goal.slice_bounds-more-end
slice_bounds-more-end c = omega (arith, (S (goal.at.slice_bounds-more-end c).After-fill_added).requires.1.1.1.0, c.fill_added.ensures.1)

pub slice_bounds-lay_and_add-end : goal.slice_bounds-lay_and_add-end
slice_bounds-lay_and_add-end c = sym (length-take-le (rain_steps (S (goal.at.slice_bounds-lay_and_add-end c).After-fill_added).args.rain.now) _ (omega (arith, (S (goal.at.slice_bounds-lay_and_add-end c).After-fill_added).requires.1.1.1.0, c.fill_added.ensures.1)))

pub slice_bounds-lay_and_add-end-2 : goal.slice_bounds-lay_and_add-end-2
slice_bounds-lay_and_add-end-2 c = sym (length-take-le (length (S (goal.at.slice_bounds-lay_and_add-end-2 c).After-fill_added).args.rows.now) _ (rows_few (goal.at.slice_bounds-lay_and_add-end-2 c).After-fill_added))

pub lay_and_add-requires : goal.lay_and_add-requires
lay_and_add-requires c =
    let s = S (goal.at.lay_and_add-requires c).After-fill_added in
    let rain = s.args.rain.now in
    let more = c.fill_added.new.list in
    let few = s.requires.1.1.1.0 in
    let room = c.fill_added.ensures.1 in
    let filled = c.fill_added.ensures.0 in
    let empty = blank_ok (length s.args.rows.now) (rows_few (goal.at.lay_and_add-requires c).After-fill_added) in
    record {
      area = rw (wide (goal.at.lay_and_add-requires c).After-fill_added) s.requires.1.0;
      timed = timing_ok (goal.at.lay_and_add-requires c).After-fill_added;
      steps = added_ok (ground (goal.at.lay_and_add-requires c).After-fill_added).tenths rain more few room filled (curve_ok (goal.at.lay_and_add-requires c).After-fill_added) s.requires.1.1.0;
      empty = empty;
      sums = sums_ok (ground (goal.at.lay_and_add-requires c).After-fill_added).tenths (peak (goal.at.lay_and_add-requires c).After-fill_added) s.args.setup.step rain (take (rain_steps rain) more) _ (front_long (ground (goal.at.lay_and_add-requires c).After-fill_added).tenths rain more few room filled) (front_filled (ground (goal.at.lay_and_add-requires c).After-fill_added).tenths rain more few room filled) empty (curve_ok (goal.at.lay_and_add-requires c).After-fill_added) s.requires.1.1.0 (timing_ok (goal.at.lay_and_add-requires c).After-fill_added);
      long = length-take-le (length s.args.rows.now) _ (rows_few (goal.at.lay_and_add-requires c).After-fill_added);
      room = s.requires.1.1.1.1;
    }

pub returns : goal.returns
returns c =
    let s = S (goal.at.returns c).After-fill_added in
    let rain = s.args.rain.now in
    let rows = s.args.rows.now in
    let own = s.args.own.now in
    let D = s.args.setup.step in
    let more = c.fill_added.new.list in
    let few = s.requires.1.1.1.0 in
    let room = c.fill_added.ensures.1 in
    let filled = c.fill_added.ensures.0 in
    let zeros : List ℕ = replicate most_rows 0 in
    let long = length-take-le (length rows) zeros (rows_few (goal.at.returns c).After-fill_added) in
    c.lay_and_add.ensures
    ∙ plus_same _ (part_laid (ground (goal.at.returns c).After-fill_added).tenths (ground (goal.at.returns c).After-fill_added).area (peak (goal.at.returns c).After-fill_added) D rain) rows
    (λ i l. parts_are (ground (goal.at.returns c).After-fill_added).tenths (peak (goal.at.returns c).After-fill_added) D rain (take (rain_steps rain) more) _ (front_long (ground (goal.at.returns c).After-fill_added).tenths rain more few room filled) (front_filled (ground (goal.at.returns c).After-fill_added).tenths rain more few room filled) (blank_ok (length rows) (rows_few (goal.at.returns c).After-fill_added)) (ground (goal.at.returns c).After-fill_added).area (1 + i) (omega (arith, long)))
    ∙ ap (λ (z : ℕ). plus (part_laid z (ground (goal.at.returns c).After-fill_added).area (peak (goal.at.returns c).After-fill_added) D rain) 1 rows) (curved (goal.at.returns c).After-fill_added)
    ∙ ap (λ (z : ℕ). plus (part_laid (curve_tenths own) z (peak (goal.at.returns c).After-fill_added) D rain) 1 rows) (wide (goal.at.returns c).After-fill_added)
    ∙ ap (λ (z : ℕ). plus (part_laid (curve_tenths own) (area_of own) z D rain) 1 rows) c.peak-peak.ensures
