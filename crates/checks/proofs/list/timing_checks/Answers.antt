-- `checks::list::timing_checks` meets its contract. Assumes nothing.
use lib.ListN.{length}
use Rattle.std.proofs.Common.{arith, rules, ◌≡◌, ◌<◌, ◌+◌, ℕ, Bool, List, ap, ◌∙◌}
use Rattle.hydrograph.specs.InflowRows.{concentration_good, peak_good, weights_good}
use Rattle.refusals.specs.declared.Rule.{Rule}
use Rattle.refusals.specs.declared.Rule.TheVariants.{Concentration, Coarse, Weights}
use Rattle.refusals.specs.Refusals.{Line, or_else, charge}
use Rattle.refusals.proofs.Scanned.{one_record}
use Rattle.subarea.specs.Records.{records_in, record_at, time_of}
use Rattle.subarea.specs.Needs.{AllSegments}
use Rattle.subarea.proofs.Subareas.{record_length, listed_length, listed_at}
use Rattle.travel.specs.Needs.{TimeOk}
use Rattle.travel.proofs.Times.{concentration_ok}
use Rattle.checks.proofs.list.timing_checks.Invariants.{so_far}
use Rattle.checks.proofs.list.timing_checks.Goals as goal

-- the Tc is one that segments can have
time_ok : (s : List ℕ) (i : ℕ) {own : List ℕ} {time : ℕ} → AllSegments s → i < records_in s → own ≡ record_at s i → time ≡ time_of own → TimeOk time
time_ok s i all l e f = rw (f, e) (concentration_ok (all.each i l).fits)

-- one record more, by its Tc
timed : (r : Rule) (good : ℕ → Bool) (s : List ℕ) (i : ℕ) {own : List ℕ} {time : ℕ} {u v w : Line} → own ≡ record_at s i → time ≡ time_of own
    → u ≡ or_else v w → v ≡ so_far r good s i → w ≡ charge r (good time) (i + 1) → u ≡ so_far r good s (i + 1)
timed r good s i e f g h k =
    one_record (λ j. good (time_of (record_at s j))) r i g h (k ∙ ap (λ t. charge r (good t) (i + 1)) (f ∙ ap time_of e))

pub time-time-requires : goal.time-time-requires
time-time-requires c =
    let a = listed_at c.records-own-items.ensures c.loop-i-test.true in
    rw a.own (record_length c.args.subareas.now c.requires.1.0 c.loop-i.i a.inside, c.requires.1.1.each c.loop-i.i a.inside)

pub peak_check-requires : goal.peak_check-requires
peak_check-requires c =
    let a = listed_at c.records-own-items.ensures c.loop-i-test.true in
    time_ok c.args.subareas.now c.loop-i.i c.requires.1.1 a.inside a.own c.time-time.ensures

pub weights_check-requires : goal.weights_check-requires
weights_check-requires c =
    let a = listed_at c.records-own-items.ensures c.loop-i-test.true in
    (c.requires.0, time_ok c.args.subareas.now c.loop-i.i c.requires.1.1 a.inside a.own c.time-time.ensures)

pub loop-i-preserved : goal.loop-i-preserved
loop-i-preserved c =
    let s = c.args.subareas.now in
    let D = c.args.setup.step in
    let i = c.loop-i.i in
    let own = (listed_at c.records-own-items.ensures c.loop-i-test.true).own in
    let time = c.time-time.ensures in (
      timed Concentration concentration_good s i own time (search rules) c.loop-i.invariant.0 c.concentration_check.ensures,
      (timed Coarse (peak_good D) s i own time (search rules) c.loop-i.invariant.1.0 c.peak_check.ensures, timed Weights (weights_good D) s i own time (search rules) c.loop-i.invariant.1.1 c.weights_check.ensures),
    )

pub returns-in_err-slow : goal.returns-in_err-slow
returns-in_err-slow c =
    let s = c.args.subareas.now in
    let all : c.loop-i.i ≡ records_in s = omega (arith, ap length c.records-own-items.ensures, listed_length s) in
    search (rules, all)

pub returns-in_err-coarse : goal.returns-in_err-coarse
returns-in_err-coarse c =
    let s = c.args.subareas.now in
    let all : c.loop-i.i ≡ records_in s = omega (arith, ap length c.records-own-items.ensures, listed_length s) in
    search (rules, all)

pub returns : goal.returns
returns c =
    let s = c.args.subareas.now in
    let all : c.loop-i.i ≡ records_in s = omega (arith, ap length c.records-own-items.ensures, listed_length s) in
    search (rules, all)
