-- `edit::settle` meets its contract. Assumes nothing.
use mathlib.Core.Path.{◌≡◌, sym, ap, ◌∙◌, subst}
use mathlib.Core.List.{List}
use Prim.Native.Nat.{ℕ, ◌+◌, ◌-◌, ◌/◌, ◌≤◌, ◌<◌}
use native.Mathlib.Omega.{arith}
use lib.ListN.{length, take, drop, length-drop}
use lib.Seq.{length-take-le}
use Rattle.laws.specs.Limits.{most_rows}
use Rattle.laws.proofs.Fill.{tail_part}
use Rattle.pond.specs.declared.Pond.{Pond}
use Rattle.pond.specs.declared.State.{State}
use Rattle.rows.specs.Routing.{over_row, state_before, total}
use Rattle.rows.proofs.Told.{over_some}
use Rattle.checks.specs.Site.{Rows, rows_now}
use Rattle.std.specs.Prelude.{Ok, Option, Some}
use Rattle.refusals.specs.declared.Rule.TheVariants.{Over}
use Rattle.refusals.specs.Refusals.{first_of}
use Rattle.refusals.proofs.Orders.{refused_answer, refused_old, passed_answer, passed_new}
use Rattle.alter.specs.Altering.{first_changed}
use Rattle.fitting.specs.Needs.{new_after, TailFit}
use Rattle.rewrite.specs.Needs.{new_by}
use Rattle.rewrite.proofs.Swaps.{new_long, tail_new, tail_fit}
use Rattle.rewrite.proofs.Changed.{changed_most, changed_total, before_ok}
use Rattle.rewrite.specs.Rewriting.{rerouted, edited_of}
use Rattle.edit.specs.Edit.{later, over_from}
use Rattle.edit.specs.Needs.{settled_from}
use Rattle.edit.proofs.settle.Goals as goal
use Rattle.edit.proofs.settle.Goals.{After-first_swapped-a, After-over_from-over, Start}

abbrev l : Start → Rows
l s = rows_now s.args.inflow.now s.args.outflow.now s.args.storage.now

-- the new inflow rows, as many as there were
abbrev ws : Start → List ℕ
ws s = new_by s.args.step s.args.rain.now s.args.old s.args.own s.args.inflow.now

long : (s : Start) → length (ws s) ≡ length s.args.inflow.now
long s = new_long s.args.step s.args.rain.now s.args.pond.now.table.numbers.now s.args.old s.args.own s.args.inflow.now

few : (s : Start) → length s.args.inflow.now ≤ most_rows
few s = omega (arith, s.requires.swap_fit.out_long, s.requires.swap_fit.rows.few)

-- the function's entry, and the first changed row: it is a row, or their number
abbrev S : After-first_swapped-a → Start
S f = (goal.at.After-first_swapped-a f).Start

abbrev A : After-first_swapped-a → ℕ
A f = f.first_swapped-a.result

most : (f : After-first_swapped-a) → A f ≤ length (S f).args.inflow.now
most f = omega (arith, f.first_swapped-a.ensures, changed_most (S f).args.inflow.now (ws (S f)))

-- what came before it and what comes from there on are at most all
comes : (f : After-first_swapped-a) → total (take (A f) (S f).args.inflow.now) + total (drop (A f) (ws (S f))) ≤ (S f).args.all
comes f =
    let s = S f in
    let vs = s.args.inflow.now in
    omega (arith, ap (λ (z : ℕ). total (take z vs) + total (drop z (ws s))) f.first_swapped-a.ensures ∙ changed_total vs (ws s) (long s), s.requires.all_bound.1)

-- the new inflow of the tail that is lent
tail_is : (f : After-first_swapped-a)
    → new_after (S f).args.step (S f).args.rain.now (S f).args.old (S f).args.own (A f) (take (length (S f).args.inflow.now - A f) (drop (A f) (S f).args.inflow.now)) ≡ drop (A f) (ws (S f))
tail_is f =
    let s = S f in
    ap (new_after s.args.step s.args.rain.now s.args.old s.args.own (A f)) (tail_part s.args.inflow.now (A f))
    ∙ tail_new s.args.step s.args.rain.now s.args.pond.now.table.numbers.now s.args.old s.args.own (A f) s.args.inflow.now

-- once 14 was looked for
abbrev F : After-over_from-over → After-first_swapped-a
F g = (goal.at.After-over_from-over g).After-first_swapped-a

abbrev st : After-over_from-over → ℕ → State
st g z = state_before (S (F g)).args.outflow.now (S (F g)).args.storage.now z

-- the row that it tells
told : (g : After-over_from-over) → g.over_from-over.result ≡ over_row ((S (F g)).args.step / 2) (S (F g)).args.pond.now.table.numbers.now (st g (A (F g))) (drop (A (F g)) (ws (S (F g))))
told g =
    let s = S (F g) in
    let pond = g.new-level.ensures.pond in
    let half = ap (λ (v : Pond). v.half) pond ∙ s.requires.half in
    let numbers = ap (λ (v : Pond). v.table.numbers.now) pond in
    let state = g.new-level.ensures.state ∙ g.state_before-state.ensures in
    g.over_from-over.ensures.value ∙ (λ i. over_row (half i) (numbers i) (state i) (tail_is (F g) i))

abbrev Changed : After-over_from-over → ℕ
Changed g = first_changed (S (F g)).args.inflow.now (ws (S (F g)))

-- counted from the first changed row
over_is : (g : After-over_from-over) → g.over_from-over.result ≡ over_row ((S (F g)).args.step / 2) (S (F g)).args.pond.now.table.numbers.now (st g (Changed g)) (drop (Changed g) (ws (S (F g))))
over_is g = let s = S (F g) in told g ∙ ap (λ (z : ℕ). over_row (s.args.step / 2) s.args.pond.now.table.numbers.now (st g z) (drop z (ws s))) (F g).first_swapped-a.ensures

-- and stands in the lists
placed : (g : After-over_from-over) {i : ℕ} → g.over_from-over.result ≡ Some i → A (F g) + i < length (S (F g)).args.inflow.now
placed g q =
    let s = S (F g) in
    let row = (over_some (s.args.step / 2) s.args.pond.now.table.numbers.now (st g (A (F g))) (drop (A (F g)) (ws s)) (sym (told g) ∙ q)).1 in
    omega (arith, row, length-drop (A (F g)) (ws s), most (F g), long s)

pub state_before-state-requires : goal.state_before-state-requires
state_before-state-requires c =
    let fit = (S (goal.at.state_before-state-requires c).After-first_swapped-a).requires.swap_fit in
    (omega (arith, most (goal.at.state_before-state-requires c).After-first_swapped-a, fit.out_long), omega (arith, most (goal.at.state_before-state-requires c).After-first_swapped-a, fit.out_long, fit.rows.long))

pub slice_bounds-sum_of-end : goal.slice_bounds-sum_of-end
slice_bounds-sum_of-end c = most (goal.at.slice_bounds-sum_of-end c).After-first_swapped-a

pub slice_bounds-sum_of-end-2 : goal.slice_bounds-sum_of-end-2
slice_bounds-sum_of-end-2 c = sym (length-take-le _ _ (most (goal.at.slice_bounds-sum_of-end-2 c).After-first_swapped-a))

pub overflow_sub-come : goal.overflow_sub-come
overflow_sub-come c = omega (arith, c.sum_of.ensures, comes (goal.at.overflow_sub-come c).After-first_swapped-a)

pub offset_bounds-inflow-a : goal.offset_bounds-inflow-a
offset_bounds-inflow-a c = omega (arith, most (goal.at.offset_bounds-inflow-a c).After-first_swapped-a, few (S (goal.at.offset_bounds-inflow-a c).After-first_swapped-a))

pub slice_bounds-over_from-count : goal.slice_bounds-over_from-count
slice_bounds-over_from-count c = most (goal.at.slice_bounds-over_from-count c).After-first_swapped-a

pub slice_bounds-over_from-start : goal.slice_bounds-over_from-start
slice_bounds-over_from-start c = most (goal.at.slice_bounds-over_from-start c).After-first_swapped-a

pub new-level-requires : goal.new-level-requires
new-level-requires c =
    let f = (goal.at.new-level-requires c).After-first_swapped-a in
    let fit = (S f).requires.swap_fit in
    rw (c.requires.half, c.state_before-state.ensures)
    (before_ok fit.pond c.args.outflow.now c.args.storage.now fit.rows (A f) (omega (arith, most f, fit.out_long)))

pub over_from-over-requires : goal.over_from-over-requires
over_from-over-requires c =
    let f = (goal.at.over_from-over-requires c).After-first_swapped-a in
    let s = S f in
    let p = s.args.pond.now.table.numbers.now in
    let tail = tail_fit s.args.step s.args.rain.now p s.args.old s.args.own (A f) (l s) s.requires.swap_fit (most f) in
    let lent = subst (λ (z : List ℕ). TailFit s.args.step s.args.rain.now p s.args.old s.args.own (A f) z) (sym (tail_part s.args.inflow.now (A f))) tail in
    record { tail_fit = rw c.new-level.ensures.pond lent; all_bound = (omega (arith, s.requires.all_bound.0), omega (arith, ap total (tail_is f), c.sum_of.ensures, comes f)) }

pub overflow_add-result : goal.overflow_add-result
overflow_add-result c = omega (arith, placed (goal.at.overflow_add-result c).After-over_from-over c.in-Some.is, few (S (F (goal.at.overflow_add-result c).After-over_from-over)))

-- 14
fourteen : (g : After-over_from-over) → first_of Over (later (A (F g)) g.over_from-over.result) ≡ over_from ((S (F g)).args.step / 2) (S (F g)).args.pond.now.table.numbers.now (l (S (F g))) (ws (S (F g)))
unfolding over_from
fourteen g =
    ap (λ (z : ℕ). first_of Over (later z g.over_from-over.result)) (F g).first_swapped-a.ensures
    ∙ ap (λ (o : Option ℕ). first_of Over (later (Changed g) o)) (over_is g)

-- what is found is what it says
decides : (g : After-over_from-over) {o : Option ℕ} → g.over_from-over.result ≡ o → first_of Over (later (A (F g)) o) ≡ over_from ((S (F g)).args.step / 2) (S (F g)).args.pond.now.table.numbers.now (l (S (F g))) (ws (S (F g)))
decides g q = ap (λ (o : Option ℕ). first_of Over (later (A (F g)) o)) (sym q) ∙ fourteen g

pub returns-in-Some : goal.returns-in-Some
unfolding settled_from
returns-in-Some c =
    let g = (goal.at.returns-in-Some c).After-over_from-over in
    let s = S (F g) in
    let h = s.args.step / 2 in
    let p = s.args.pond.now.table.numbers.now in
    let stop = decides g c.in-Some.is in
    record { value = refused_answer stop (edited_of h s.args.classes p (l s) (rerouted h p (l s) (ws s))); storage_value = refused_old stop (rerouted h p (l s) (ws s)) (l s) }

pub finish-requires : goal.finish-requires
finish-requires c =
    let g = (goal.at.finish-requires c).After-over_from-over in
    record { swap_fit = (S (F g)).requires.swap_fit; half = (S (F g)).requires.half; a_value = (F g).first_swapped-a.ensures; inflow_value = sym (told g) ∙ c.in_default.is }

pub returns : goal.returns
unfolding settled_from
returns c =
    let g = (goal.at.returns c).After-over_from-over in
    let s = S (F g) in
    let h = s.args.step / 2 in
    let p = s.args.pond.now.table.numbers.now in
    let pass = decides g c.in_default.is in
    record { value = ap (λ z. Ok z) c.finish.ensures.value ∙ passed_answer pass (edited_of h s.args.classes p (l s) (rerouted h p (l s) (ws s))); storage_value = c.finish.ensures.storage_value ∙ passed_new pass (rerouted h p (l s) (ws s)) (l s) }
