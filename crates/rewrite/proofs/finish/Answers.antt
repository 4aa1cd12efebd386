-- `rewrite::finish` meets its contract: only the tails are lent onward. Assumes nothing.
use mathlib.Core.Path.{◌≡◌, sym, ap, ◌∙◌, subst}
use mathlib.Core.List.{List}
use Prim.Native.Nat.{ℕ, ◌+◌, ◌-◌, ◌/◌, ◌≤◌}
use native.Mathlib.Omega.{arith}
use borrow.Rule.Slice.PartMut.{put_mid}
use lib.ListN.{length, drop, length-drop}
use Rattle.laws.specs.Limits.{most_rows}
use Rattle.laws.proofs.Fill.{tail_part}
use Rattle.parts.specs.Needs.{part_by}
use Rattle.rows.specs.Routing.{passed, state_before}
use Rattle.rows.specs.Figures.{figures_of}
use Rattle.rows.specs.Needs.{InflowOk, RowsBefore, RowsOk}
use Rattle.rows.specs.declared.RowFigures.{RowFigures}
use Rattle.rows.proofs.Told.{over_none}
use Rattle.alter.specs.Altering.{changed_at, outflows_from, storages_from}
use Rattle.alter.specs.Needs.{PartsFit}
use Rattle.checks.specs.Site.{Rows, rows_now}
use Rattle.fitting.specs.Needs.{new_after}
use Rattle.rewrite.specs.Rewriting.{rerouted, figures_in, told, edited_of}
use Rattle.rewrite.specs.Needs.{new_by}
use Rattle.rewrite.proofs.Swaps.{new_long, tail_new, tail_fit}
use Rattle.rewrite.proofs.Changed.{rows_equal, rows_left, figures_small, changed_most, tail_written}
use Rattle.rewrite.proofs.finish.Goals as goal
use Rattle.rewrite.proofs.finish.Goals.{After-swap_rows, After-write_from-after, Start}

abbrev l : Start → Rows
l s = rows_now s.args.inflow.now s.args.outflow.now s.args.storage.now

-- the new inflow rows, as many as there were
abbrev ws : Start → List ℕ
ws s = new_by s.args.step s.args.rain.now s.args.old s.args.own s.args.inflow.now

long : (s : Start) → length (ws s) ≡ length s.args.inflow.now
long s = new_long s.args.step s.args.rain.now s.args.pond.now.table.numbers.now s.args.old s.args.own s.args.inflow.now

-- the first changed row is a row, or their number
most : (s : Start) → s.args.a ≤ length s.args.inflow.now
most s = omega (arith, s.requires.a_value, changed_most s.args.inflow.now (ws s))

few : (s : Start) → length s.args.inflow.now ≤ most_rows
few s = omega (arith, s.requires.swap_fit.out_long, s.requires.swap_fit.rows.few)

-- every row from there on passes
passes : (s : Start) → passed (s.args.step / 2) s.args.pond.now.table.numbers.now (state_before s.args.outflow.now s.args.storage.now s.args.a) (drop s.args.a (ws s)) ≡ length (ws s) - s.args.a
passes s =
    let st = state_before s.args.outflow.now s.args.storage.now s.args.a in
    over_none (s.args.step / 2) s.args.pond.now.table.numbers.now st (drop s.args.a (ws s)) s.requires.inflow_value ∙ length-drop s.args.a (ws s)

abbrev S : After-swap_rows → Start
S c = (goal.at.After-swap_rows c).Start

-- the inflow as left
inflow_left : (c : After-swap_rows) → put_mid (S c).args.a (length (S c).args.inflow.now - (S c).args.a) (S c).args.inflow.now c.swap_rows.new.inflow ≡ ws (S c)
inflow_left c =
    let s = S c in
    let vs = s.args.inflow.now in
    tail_written vs (ws s) (long s) s.args.a _ s.requires.a_value
    (c.swap_rows.ensures
    ∙ ap (new_after s.args.step s.args.rain.now s.args.old s.args.own s.args.a) (tail_part vs s.args.a)
    ∙ tail_new s.args.step s.args.rain.now s.args.pond.now.table.numbers.now s.args.old s.args.own s.args.a vs)

-- what is asked of inflow rows to write the others by
abbrev Ready : Start → List ℕ → Type 0
Ready s z =
    (RowsBefore (s.args.step / 2) s.args.pond.now.table.numbers.now s.args.outflow.now s.args.storage.now s.args.a × (InflowOk z × (s.args.a ≤ length z)))
    × ((passed (s.args.step / 2) s.args.pond.now.table.numbers.now (state_before s.args.outflow.now s.args.storage.now s.args.a) (drop s.args.a z) ≡ length z - s.args.a)
    × ((length s.args.outflow.now ≡ length z) × ((length s.args.storage.now ≡ length z) × ((1 ≤ length z) × (length z ≤ most_rows)))))

ready : (s : Start) → Ready s (ws s)
ready s =
    let fit = s.requires.swap_fit in
    let out = fit.out_long ∙ sym (long s) in (
      (record { each = λ i h. fit.rows.each i (omega (arith, h, most s, fit.out_long)) }, (fit.new, omega (arith, long s, most s))),
      (passes s, (out, (fit.rows.long ∙ out, (omega (arith, long s, fit.least), omega (arith, long s, few s))))),
    )

-- once the rows are written
abbrev F : After-write_from-after → After-swap_rows
F w = (goal.at.After-write_from-after w).After-swap_rows

out_is : (w : After-write_from-after)
    → w.write_from-after.new.outflow ≡ outflows_from ((S (F w)).args.step / 2) (S (F w)).args.pond.now.table.numbers.now (S (F w)).args.outflow.now (S (F w)).args.storage.now (ws (S (F w))) (S (F w)).args.a
out_is w =
    let s = S (F w) in
    w.write_from-after.ensures.outflow_after ∙ (λ i. outflows_from (s.requires.half i) s.args.pond.now.table.numbers.now s.args.outflow.now s.args.storage.now (inflow_left (F w) i) s.args.a)

held_is : (w : After-write_from-after)
    → w.write_from-after.new.storage ≡ storages_from ((S (F w)).args.step / 2) (S (F w)).args.pond.now.table.numbers.now (S (F w)).args.outflow.now (S (F w)).args.storage.now (ws (S (F w))) (S (F w)).args.a
held_is w =
    let s = S (F w) in
    w.write_from-after.ensures.storage_after ∙ (λ i. storages_from (s.requires.half i) s.args.pond.now.table.numbers.now s.args.outflow.now s.args.storage.now (inflow_left (F w) i) s.args.a)

-- the rows written can be the pond's
routed : (w : After-write_from-after) → RowsOk ((S (F w)).args.step / 2) (S (F w)).args.pond.now.table.numbers.now w.write_from-after.new.outflow w.write_from-after.new.storage
routed w =
    let s = S (F w) in
    let fit = s.requires.swap_fit in
    rows_left fit.pond s.args.outflow.now s.args.storage.now fit.rows (ws s) s.args.a (long s ∙ sym fit.out_long) (omega (arith, fit.out_long, most s)) (passes s) _ _ (out_is w) (held_is w)

-- the rows as left
abbrev Left : After-write_from-after → Rows
Left w = rerouted ((S (F w)).args.step / 2) (S (F w)).args.pond.now.table.numbers.now (l (S (F w))) (ws (S (F w)))

outflow_left : (w : After-write_from-after) → w.write_from-after.new.outflow ≡ (Left w).outflow
outflow_left w = let s = S (F w) in out_is w ∙ ap (outflows_from (s.args.step / 2) s.args.pond.now.table.numbers.now s.args.outflow.now s.args.storage.now (ws s)) s.requires.a_value

storage_left : (w : After-write_from-after) → w.write_from-after.new.storage ≡ (Left w).storage
storage_left w = let s = S (F w) in held_is w ∙ ap (storages_from (s.args.step / 2) s.args.pond.now.table.numbers.now s.args.outflow.now s.args.storage.now (ws s)) s.requires.a_value

-- and their figures
figures_left : (w : After-write_from-after) → w.write_from-after.result ≡ figures_in ((S (F w)).args.step / 2) (S (F w)).args.pond.now.table.numbers.now (Left w)
figures_left w =
    let s = S (F w) in
    w.write_from-after.ensures.value ∙ (λ i. figures_of (s.requires.half i) s.args.pond.now.table.numbers.now (inflow_left (F w) i) (outflow_left w i) (storage_left w i))

pub figures_of-before-requires : goal.figures_of-before-requires
figures_of-before-requires c =
    let fit = c.requires.swap_fit in
    (rw c.requires.half fit.rows, (fit.found, (sym fit.out_long, omega (arith, fit.out_long, fit.least))))

pub offset_bounds-inflow-a : goal.offset_bounds-inflow-a
offset_bounds-inflow-a c = omega (arith, most (goal.at.offset_bounds-inflow-a c).Start, few (goal.at.offset_bounds-inflow-a c).Start)

pub slice_bounds-swap_rows-count : goal.slice_bounds-swap_rows-count
slice_bounds-swap_rows-count c = most (goal.at.slice_bounds-swap_rows-count c).Start

pub slice_bounds-swap_rows-start : goal.slice_bounds-swap_rows-start
slice_bounds-swap_rows-start c = most (goal.at.slice_bounds-swap_rows-start c).Start

pub swap_rows-requires : goal.swap_rows-requires
swap_rows-requires c =
    let fit = c.requires.swap_fit in
    let old = part_by c.args.step c.args.rain.now c.args.old in
    let tail = tail_fit c.args.step c.args.rain.now c.args.pond.now.table.numbers.now c.args.old c.args.own c.args.a (l (goal.at.swap_rows-requires c).Start) fit (most (goal.at.swap_rows-requires c).Start) in
    let back = sym (tail_part c.args.inflow.now c.args.a) in
    record { numbers_ok = (fit.was, (fit.is, (fit.raining, subst (λ (z : List ℕ). PartsFit old c.args.a z) back tail.parted))); inflow_bound = subst (λ (z : List ℕ). c.args.a + length z ≤ most_rows) back tail.few }

pub write_from-after-requires : goal.write_from-after-requires
write_from-after-requires c = let whole = subst (Ready (S (goal.at.write_from-after-requires c).After-swap_rows)) (sym (inflow_left (goal.at.write_from-after-requires c).After-swap_rows)) (ready (S (goal.at.write_from-after-requires c).After-swap_rows)) in record { rows_ok = rw c.requires.half whole.0; passes = rw c.requires.half whole.1.0; lengths = whole.1.1 }

pub tell-requires : goal.tell-requires
tell-requires c =
    let s = S (F (goal.at.tell-requires c).After-write_from-after) in
    let fit = s.requires.swap_fit in
    (rw (c.write_from-after.ensures.value, c.requires.half) (figures_small fit.pond _ _ (routed (goal.at.tell-requires c).After-write_from-after) _), rw (c.figures_of-before.ensures, c.requires.half) (figures_small fit.pond s.args.outflow.now s.args.storage.now fit.rows s.args.inflow.now))

pub returns : goal.returns
unfolding edited_of
returns c =
    let s = S (F (goal.at.returns c).After-write_from-after) in
    let own = figures_in (s.args.step / 2) s.args.pond.now.table.numbers.now (Left (goal.at.returns c).After-write_from-after) in
    let old = figures_in (s.args.step / 2) s.args.pond.now.table.numbers.now (l s) in
    let row = c.changed_row.result in record {
      value = c.tell.ensures
          ∙ ap (λ (z : RowFigures). told s.args.classes z c.figures_of-before.result row) (figures_left (goal.at.returns c).After-write_from-after)
          ∙ ap (λ (z : RowFigures). told s.args.classes own z row) (c.figures_of-before.ensures ∙ (λ i. figures_of (c.requires.half i) s.args.pond.now.table.numbers.now s.args.inflow.now s.args.outflow.now s.args.storage.now))
          ∙ ap (told s.args.classes own old) (c.changed_row.ensures ∙ ap (changed_at s.args.a) (ap length (inflow_left (F (goal.at.returns c).After-write_from-after)) ∙ long s) ∙ ap (λ (z : ℕ). changed_at z (length s.args.inflow.now)) s.requires.a_value);
      storage_value = rows_equal (inflow_left (F (goal.at.returns c).After-write_from-after)) (outflow_left (goal.at.returns c).After-write_from-after) (storage_left (goal.at.returns c).After-write_from-after);
    }
