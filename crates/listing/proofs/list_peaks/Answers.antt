-- `listing::list_peaks` meets its contract. Assumes nothing.
use mathlib.Core.Path.{◌≡◌, ap, ◌∙◌}
use Prim.Native.Nat.{ℕ, ◌≤◌}
use native.Mathlib.Omega.{arith}
use lib.ListN.{length}
use Rattle.hydrograph.specs.InflowRows.{total_weight}
use Rattle.subarea.specs.Records.{records_in, record_at, peak_of}
use Rattle.subarea.proofs.Subareas.{listed_length, listed_at}
use Rattle.listing.proofs.Listing.{peak_narrow, total_narrow, list_start, list_turn, list_end}
use Rattle.listing.proofs.list_peaks.Goals as goal
use Rattle.listing.proofs.list_peaks.Goals.{After-peak-peak, After-total_weight, In-loop-i, Start}

-- both lists have room for every subarea
room : (s : Start) → (records_in s.args.subareas.now ≤ length s.args.shapes.now.peaks) × (records_in s.args.subareas.now ≤ length s.args.shapes.now.totals)
room s = (omega (arith, s.requires.1.0, s.requires.0.records.most), omega (arith, s.requires.1.1, s.requires.0.records.most))

-- the time to peak of the subarea at hand
peak_is : (c : After-peak-peak) → c.peak-peak.result ≡ peak_of c.args.setup (record_at c.args.subareas.now c.loop-i.i)
peak_is c = c.peak-peak.ensures ∙ ap (peak_of c.args.setup) (listed_at c.records-own-items.ensures c.loop-i-test.true).own

-- the sum of its weights
total_is : (c : After-total_weight)
    → c.total_weight.result ≡ total_weight (peak_of c.args.setup (record_at c.args.subareas.now c.loop-i.i)) c.args.setup.step
total_is c = c.total_weight.ensures ∙ ap (λ (z : ℕ). total_weight z c.args.setup.step) (peak_is (goal.at.After-total_weight c).After-peak-peak)

pub loop-i-init : goal.loop-i-init
loop-i-init c = list_start c.args.setup c.args.subareas.now c.args.shapes.now.peaks c.args.shapes.now.totals

pub peak-peak-requires : goal.peak-peak-requires
peak-peak-requires c =
    let a = listed_at c.records-own-items.ensures c.loop-i-test.true in
    let each = c.requires.0.each c.loop-i.i a.inside in
    rw a.own (each.whole, each.routed)

pub overflow_cast-shapes : goal.overflow_cast-shapes
overflow_cast-shapes c =
    let g = c.args.setup in
    let i = c.loop-i.i in
    omega (arith, peak_is (goal.at.overflow_cast-shapes c).After-peak-peak, peak_narrow g.step (peak_of g (record_at c.args.subareas.now i)) (c.requires.0.each i (listed_at c.records-own-items.ensures c.loop-i-test.true).inside).timed)

pub total_weight-requires : goal.total_weight-requires
total_weight-requires c = rw (peak_is (goal.at.total_weight-requires c).After-peak-peak) (c.requires.0.each c.loop-i.i (listed_at c.records-own-items.ensures c.loop-i-test.true).inside).timed

pub overflow_cast-shapes-in-loop-i : goal.overflow_cast-shapes-in-loop-i
overflow_cast-shapes-in-loop-i c =
    let g = c.args.setup in
    let i = c.loop-i.i in
    omega (arith, total_is (goal.at.overflow_cast-shapes-in-loop-i c).After-total_weight, total_narrow g.step (peak_of g (record_at c.args.subareas.now i)) (c.requires.0.each i (listed_at c.records-own-items.ensures c.loop-i-test.true).inside).timed)

pub loop-i-preserved : goal.loop-i-preserved
loop-i-preserved c =
    list_turn c.args.setup c.args.subareas.now c.args.shapes.now.peaks c.args.shapes.now.totals c.loop-i.invariant (room (goal.at.loop-i-preserved c).Start).0 (room (goal.at.loop-i-preserved c).Start).1 (listed_at c.records-own-items.ensures c.loop-i-test.true).inside (peak_is (goal.at.loop-i-preserved c).After-peak-peak) (total_is (goal.at.loop-i-preserved c).After-total_weight)

pub returns : goal.returns
returns c =
    let whole = list_end c.args.setup c.args.subareas.now c.args.shapes.now.peaks c.args.shapes.now.totals c.loop-i.invariant (room (goal.at.returns c).Start).0 (room (goal.at.returns c).Start).1 (omega (arith, ap length c.records-own-items.ensures, listed_length c.args.subareas.now)) in record { peaks_after = whole.0; totals_after = whole.1 }
