-- `study::finish` meets its contract. Assumes nothing.
use mathlib.Core.Path.{◌≡◌, sym, ap, ◌∙◌}
use mathlib.Core.List.{List}
use Prim.Native.Nat.{ℕ}
use native.Mathlib.Omega.{arith}
use lib.ListN.{length}
use Rattle.laws.proofs.Listed.{rows_length}
use Rattle.curve.specs.declared.Classes.{Classes}
use Rattle.pond.specs.PondRows.{empty}
use Rattle.rows.specs.Routing.{outflow_of, storage_of, outflows, storages}
use Rattle.rows.specs.Figures.{figures_of}
use Rattle.subarea.specs.Records.{half_of}
use Rattle.inflow.specs.Inflow.{inflow_at, inflow_rows}
use Rattle.inflow.proofs.Inflows.{inflow_ok}
use Rattle.study.specs.Study.{figures_with, with_classes}
use Rattle.study.proofs.Writing.{none_before, first_passes, first_written}
use Rattle.study.proofs.finish.Goals as goal
use Rattle.study.proofs.finish.Goals.{After-write_from-own, Start}

-- half the step, the pond, the inflow rows
abbrev h : Start → ℕ
h s = half_of s.args.setup

abbrev p : Start → List ℕ
p s = s.args.pond.now.table.numbers.now

abbrev vs : Start → List ℕ
vs s = inflow_rows s.args.setup s.args.rain.now s.args.subareas.now (length s.args.inflow.now)

-- as many as were asked
asked : (s : Start) → length (vs s) ≡ length s.args.inflow.now
asked s = rows_length (inflow_at s.args.setup s.args.rain.now s.args.subareas.now) 1 (length s.args.inflow.now)

-- the function's entry, once the rows are written
abbrev start : After-write_from-own → Start
start c = (goal.at.After-write_from-own c).Start

-- the columns that are left
out_is : (c : After-write_from-own) → c.write_from-own.new.outflow ≡ outflows (h (start c)) (p (start c)) empty (vs (start c))
out_is c =
    c.write_from-own.ensures.outflow_after ∙ first_written c.args.pond.now.half (p (start c)) _ _ outflow_of c.fill_rows.new.inflow
    ∙ (λ i. outflows (c.requires.half i) (p (start c)) empty (c.fill_rows.ensures.inflow_after i))

held_is : (c : After-write_from-own) → c.write_from-own.new.storage ≡ storages (h (start c)) (p (start c)) empty (vs (start c))
held_is c =
    c.write_from-own.ensures.storage_after ∙ first_written c.args.pond.now.half (p (start c)) _ _ storage_of c.fill_rows.new.inflow
    ∙ (λ i. storages (c.requires.half i) (p (start c)) empty (c.fill_rows.ensures.inflow_after i))

pub write_from-own-requires : goal.write_from-own-requires
write_from-own-requires c =
    let s = (goal.at.write_from-own-requires c).Start in
    let site = c.requires.site_ok.0 in
    let f = c.fill_rows.ensures in
    let new = f.inflow_after in
    let long = ap length new ∙ asked s in
    let lengths = site.basin.run.lengths in
    record {
      rows_ok = (none_before c.args.pond.now.half (p s) _ _, (rw new (inflow_ok c.args.setup c.args.rain.now c.args.subareas.now site.basin.run.raining site.basin.list (length c.args.inflow.now)), omega arith));
      passes = rw (new, c.requires.half) (first_passes (h s) (p s) _ _ (vs s) c.requires.inflow_value);
      lengths = (f.outflow_len_unchanged.0 ∙ lengths.out_long ∙ sym long, (f.outflow_len_unchanged.1 ∙ lengths.held_long ∙ sym long, (omega (arith, long, lengths.least), omega (arith, long, lengths.most))));
    }

pub all_classes-requires : goal.all_classes-requires
all_classes-requires c =
    let list = c.requires.site_ok.0.basin.list in
    (list.records, record { each = λ i l. (list.each i l).patched })

pub shape_of-inflow : goal.shape_of-inflow
shape_of-inflow c = ap length c.fill_rows.ensures.inflow_after ∙ asked (goal.at.shape_of-inflow c).Start

pub returns : goal.returns
returns c =
    let new = c.fill_rows.ensures.inflow_after in
    let own = c.write_from-own in
    let d = (goal.at.returns c).After-write_from-own in
    let figures = own.ensures.value ∙ (λ i. figures_of (c.requires.half i) (p (start d)) (new i) (out_is d i) (held_is d i)) in record {
      value = c.figures_with.ensures
          ∙ ap (λ (z : Classes). figures_with z own.result) c.all_classes.ensures
          ∙ ap (with_classes c.args.subareas.now) figures;
      storage_value = rw (new, out_is d, held_is d);
    }
