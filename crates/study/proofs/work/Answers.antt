-- `study::work` meets its contract. Assumes nothing.
use Rattle.std.proofs.Common.{rules}
use mathlib.Core.Path.{◌≡◌, ap, ◌∙◌}
use mathlib.Core.List.{List}
use Prim.Native.Nat.{ℕ}
use lib.ListN.{length}
use Rattle.std.specs.Prelude.{Ok}
use Rattle.pond.specs.declared.Pond.{Pond}
use Rattle.pond.specs.declared.State.{State}
use Rattle.pond.specs.PondRows.{empty}
use Rattle.pond.proofs.Steps.{empty_ok}
use Rattle.rows.specs.Routing.{over_row}
use Rattle.subarea.specs.Records.{half_of}
use Rattle.checks.specs.Site.{Site, Rows, site, rows_now}
use Rattle.inflow.specs.Inflow.{inflow_rows}
use Rattle.listing.specs.Needs.{Listed}
use Rattle.listing.proofs.Listing.{lists_have}
use Rattle.study.specs.Study.{routed, study_figures}
use Rattle.study.proofs.Settling.{over_told, over_left, under_row, under_told, under_left}
use Rattle.study.proofs.work.Goals as goal
use Rattle.study.proofs.work.Goals.{After-list_peaks, After-new-level, After-over_row-over, Start}

-- half the step, the inflow rows, and the lists as found
abbrev h : Start → ℕ
h s = half_of s.args.setup

abbrev vs : Start → List ℕ
vs s = inflow_rows s.args.setup s.args.rain.now s.args.subareas.now (length s.args.inflow.now)

abbrev l : Start → Rows
l s = rows_now s.args.inflow.now s.args.outflow.now s.args.storage.now

-- the function's entry, once the level is made, and once the search is done
abbrev start : After-new-level → Start
start f = (goal.at.After-new-level f).Start

abbrev Of : After-over_row-over → Start
Of f = (goal.at.After-over_row-over f).Start

-- once the times to peak and the sums of weights are listed
listed : (f : After-list_peaks) → Listed f.args.setup f.args.subareas.now f.list_peaks.new.shapes
listed f = lists_have f.args.setup f.args.subareas.now _ _ f.list_peaks.ensures.peaks_after f.list_peaks.ensures.totals_after

-- the state that is made is the empty pond
nothing : {st : State} → (st.storage ≡ 0) × (st.outflow ≡ 0) → st ≡ empty
nothing e = λ i. record { storage = e.0 i; outflow = e.1 i }

-- half the step and the numbers of the level's pond, and its state
level_is : (f : After-new-level) → (f.new-level.result.pond.half ≡ h (start f)) × ((f.new-level.result.pond.table.numbers.now ≡ f.args.pond.now) × (f.new-level.result.state ≡ empty))
level_is f =
    let pond = f.new-level.ensures.pond in
    (ap (λ (v : Pond). v.half) pond ∙ f.new.ensures.half, (ap (λ (v : Pond). v.table.numbers.now) pond ∙ f.new.ensures.numbers, f.new-level.ensures.state ∙ nothing f.default.ensures))

-- the row that goes over of those from the empty pond on
over_is : (f : After-over_row-over) → f.over_row-over.result ≡ over_row (h (Of f)) f.args.pond.now empty (vs (Of f))
over_is f =
    let v = level_is (goal.at.After-over_row-over f).After-new-level in
    f.over_row-over.ensures.value ∙ (λ i. over_row (v.0 i) (v.1.0 i) (v.1.1 i) (vs (Of f)))

pub new-requires : goal.new-requires
new-requires c = c.requires.pond

pub new-level-requires : goal.new-level-requires
new-level-requires c = rw (nothing c.default.ensures) (empty_ok _ _)

pub over_row-over-requires-clause-list_ok : goal.over_row-over-requires-clause-list_ok
over_row-over-requires-clause-list_ok c =
    (c.requires.basin.list, (c.requires.basin.run.raining, listed (goal.at.over_row-over-requires-clause-list_ok c).After-list_peaks))

pub returns-in_err-refused_at : goal.returns-in_err-refused_at
returns-in_err-refused_at c =
    let s = (goal.at.returns-in_err-refused_at c).Start in
    let p = c.args.pond.now in
    let is = over_is (goal.at.returns-in_err-refused_at c).After-over_row-over in
    record { value = search (rules, over_told (h s) p (vs s) is c.args.subareas.now); storage_value = search (rules, over_left (h s) p (vs s) is (routed (h s) p (vs s)) (l s)) }

pub finish-requires : goal.finish-requires
finish-requires c =
    let s = (goal.at.finish-requires c).Start in
    let v = level_is (goal.at.finish-requires c).After-new-level in
    let is = over_is (goal.at.finish-requires c).After-over_row-over in
    record {
      site_ok = rw v.1.0 (c.requires, listed (goal.at.finish-requires c).After-list_peaks);
      half = v.0;
      inflow_value = rw v.1.0 (under_row (h s) c.args.pond.now (vs s) is (search rules));
    }

pub returns : goal.returns
returns c =
    let s = (goal.at.returns c).Start in
    let p = c.args.pond.now in
    let v = level_is (goal.at.returns c).After-new-level in
    let is = over_is (goal.at.returns c).After-over_row-over in
    let site_of : List ℕ → Site = λ p. site s.args.setup s.args.rain.now s.args.subareas.now p in
    let f = c.finish.ensures in record {
      value = ap (λ z. Ok z) (f.value ∙ ap (λ (p : List ℕ). study_figures (site_of p) (l s)) v.1.0) ∙ under_told (h s) p (vs s) is c.args.subareas.now (search rules);
      storage_value = f.storage_value ∙ ap (λ (p : List ℕ). routed (h s) p (vs s)) v.1.0 ∙ under_left (h s) p (vs s) is _ _ (search rules);
    }
