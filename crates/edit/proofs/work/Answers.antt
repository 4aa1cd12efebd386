-- `edit::work` meets its contract. Assumes nothing.
use Rattle.std.proofs.Common.{rules}
use mathlib.Core.Path.{◌≡◌, sym, ap, ◌∙◌}
use mathlib.Core.List.{List, []}
use Prim.Native.Nat.{ℕ, ◌+◌, ◌-◌, ◌/◌, ◌<◌}
use lib.ListN.{length, get_or}
use native.Mathlib.Omega.{arith}
use Rattle.sums.specs.declared.Numbers.{Numbers}
use Rattle.parts.specs.Needs.{part_by}
use Rattle.std.specs.Prelude.{Err}
use Rattle.refusals.specs.declared.Rule.{Rule}
use Rattle.refusals.specs.declared.Rule.TheVariants.{InflowRow, Forged}
use Rattle.refusals.specs.declared.Refusal.{Refusal}
use Rattle.checks.specs.Site.{Site, Rows, site_now, rows_now}
use Rattle.rows.specs.Figures.{first_forged}
use Rattle.refusals.specs.Refusals.{Line, none, first_of, first_refusal, AllPass}
use Rattle.refusals.proofs.Orders.{all_pass}
use Rattle.checks.specs.Order.{forged_line}
use Rattle.subarea.specs.Records.{half_of}
use Rattle.subarea.proofs.Subareas.{listed, listed_length, listed_at}
use Rattle.inflow.specs.Needs.{numbers_of}
use Rattle.alter.specs.Altering.{old_record, old_part, new_inflow_of}
use Rattle.alter.specs.Needs.{PlaceOk}
use Rattle.fitting.specs.declared.Fit.{Fit}
use Rattle.fitting.specs.Needs.{fit_of}
use Rattle.rewrite.specs.Needs.{new_by}
use Rattle.edit.specs.Edit.{unfit_of}
use Rattle.edit.specs.Needs.{settled_from, settled_rows_from, found_lines, refitted, refitted_rows}
use Rattle.edit.proofs.Fitting.{numbers_ok, old_ok, swap_fit, all_most}
use Rattle.edit.proofs.Settling.{rows_stop, rows_pass, unfit_stops, forged_stops, found_passes}
use Rattle.edit.proofs.work.Goals as goal
use Rattle.edit.proofs.work.Goals.{After-fit_rows-fit, After-numbers-own, Start}

abbrev x : Start → Site
x s = site_now s.args.setup s.args.rain.now s.args.subareas.now s.args.pond.now

abbrev l : Start → Rows
l s = rows_now s.args.inflow.now s.args.outflow.now s.args.storage.now

-- the function's entry, once the numbers are read
abbrev S : After-numbers-own → Start
S n = (goal.at.After-numbers-own n).Start

-- the element of the list of records at the place of an edit, and what it holds
inside : {s r : List ℕ} {list : List (List ℕ)} {k : ℕ} → list ≡ listed s → PlaceOk s k r → k - 1 < length list
inside {s} e ok = omega (arith, ap length e, listed_length s, ok.listed, ok.last)

record_is : {s r : List ℕ} {list : List (List ℕ)} {k : ℕ} → list ≡ listed s → PlaceOk s k r → get_or list (k - 1) [] ≡ old_record s k
record_is {s} {r} {list} {k} e ok = (listed_at {s = s} {list = list} {i = k - 1} e (inside e ok)).own

-- the old record's numbers
old_is : (n : After-numbers-own) → n.numbers-old.result ≡ numbers_of (S n).args.setup (old_record (S n).args.subareas.now (S n).args.place)
old_is n =
    let s = S n in
    n.numbers-old.ensures ∙ ap (numbers_of s.args.setup) (record_is n.records.ensures s.requires.place)

-- once the rows are held against the old record
abbrev N : After-fit_rows-fit → After-numbers-own
N o = (goal.at.After-fit_rows-fit o).After-numbers-own

-- how far they fit it
fit_is : (o : After-fit_rows-fit) → o.fit_rows-fit.result ≡ fit_of (old_part (x (S (N o))) (S (N o)).args.place) (S (N o)).args.inflow.now
fit_is o =
    let s = S (N o) in
    o.fit_rows-fit.ensures ∙ ap (λ (z : Numbers). fit_of (part_by s.args.setup.step s.args.rain.now z) s.args.inflow.now) (old_is (N o))

-- 16
unfit : (o : After-fit_rows-fit) → first_of InflowRow o.fit_rows-fit.result.bad ≡ unfit_of (x (S (N o))) (l (S (N o))) (S (N o)).args.place
unfit o = ap (λ (z : Fit). first_of InflowRow z.bad) (fit_is o)

unfit_told : (o : After-fit_rows-fit) {e : Refusal Rule} → Err e ≡ first_of InflowRow o.fit_rows-fit.result.bad → Err e ≡ refitted (x (S (N o))) (l (S (N o))) (S (N o)).args.place (S (N o)).args.fresh.now
unfit_told o q = let s = S (N o) in (rows_stop (x s) (l s) s.args.place s.args.fresh.now (unfit_stops (x s) (l s) s.args.place s.args.fresh.now (q ∙ unfit o))).0

unfit_left : (o : After-fit_rows-fit) {e : Refusal Rule} → Err e ≡ first_of InflowRow o.fit_rows-fit.result.bad → l (S (N o)) ≡ refitted_rows (x (S (N o))) (l (S (N o))) (S (N o)).args.place (S (N o)).args.fresh.now
unfit_left o q = let s = S (N o) in (rows_stop (x s) (l s) s.args.place s.args.fresh.now (unfit_stops (x s) (l s) s.args.place s.args.fresh.now (q ∙ unfit o))).1

-- 17
abbrev forged : After-fit_rows-fit → Line
forged o = first_of Forged (first_forged o.new-pond.result.half o.new-pond.result.table.numbers.now (l (S (N o))).outflow (l (S (N o))).storage)

forged_is : (o : After-fit_rows-fit) → forged o ≡ forged_line (half_of (x (S (N o))).setup) (x (S (N o))).pond (l (S (N o)))
forged_is o =
    let s = S (N o) in
    let pond = o.new-pond.ensures in
    λ i. first_of Forged (first_forged (pond.half i) (pond.numbers i) (l s).outflow (l s).storage)

-- once 16 passes
module _ (o : After-fit_rows-fit) (u : none ≡ first_of InflowRow o.fit_rows-fit.result.bad) where
  forged_told : {e : Refusal Rule} → Err e ≡ forged o → Err e ≡ refitted (x (S (N o))) (l (S (N o))) (S (N o)).args.place (S (N o)).args.fresh.now
  forged_told q = let s = S (N o) in (rows_stop (x s) (l s) s.args.place s.args.fresh.now (forged_stops (x s) (l s) s.args.place s.args.fresh.now (u ∙ unfit o) (q ∙ forged_is o))).0

  forged_left : {e : Refusal Rule} → Err e ≡ forged o → l (S (N o)) ≡ refitted_rows (x (S (N o))) (l (S (N o))) (S (N o)).args.place (S (N o)).args.fresh.now
  forged_left q = let s = S (N o) in (rows_stop (x s) (l s) s.args.place s.args.fresh.now (forged_stops (x s) (l s) s.args.place s.args.fresh.now (u ∙ unfit o) (q ∙ forged_is o))).1

  -- neither is refused
  passes : none ≡ forged o → none ≡ first_refusal (found_lines (x (S (N o))) (l (S (N o))) (S (N o)).args.place)
  passes f = let s = S (N o) in found_passes (x s) (l s) s.args.place s.args.fresh.now (u ∙ unfit o) (f ∙ forged_is o)

  clear : none ≡ forged o → AllPass (found_lines (x (S (N o))) (l (S (N o))) (S (N o)).args.place)
  clear f = let s = S (N o) in all_pass (found_lines (x s) (l s) s.args.place) (sym (passes f))

-- the new inflow rows
new : (n : After-numbers-own)
    → new_by (S n).args.setup.step (S n).args.rain.now n.numbers-old.result n.numbers-own.result (S n).args.inflow.now ≡ new_inflow_of (x (S n)) (l (S n)) (S n).args.place (S n).args.fresh.now
new n =
    let s = S n in
    let old = numbers_of s.args.setup (old_record s.args.subareas.now s.args.place) in
    ap (λ (z : Numbers). new_by s.args.setup.step s.args.rain.now z n.numbers-own.result s.args.inflow.now) (old_is n)
    ∙ ap (λ (z : Numbers). new_by s.args.setup.step s.args.rain.now old z s.args.inflow.now) n.numbers-own.ensures

pub new-pond-requires : goal.new-pond-requires
new-pond-requires c = c.requires.work.pond

pub bounds-records-place : goal.bounds-records-place
bounds-records-place c = inside c.records.ensures c.requires.place

pub numbers-old-requires : goal.numbers-old-requires
numbers-old-requires c =
    let own = record_is c.records.ensures c.requires.place in
    rw own (old_ok (x (goal.at.numbers-old-requires c).Start) (l (goal.at.numbers-old-requires c).Start) c.args.place c.args.fresh.now c.requires).0

pub fit_rows-fit-requires : goal.fit_rows-fit-requires
fit_rows-fit-requires c =
    let s = S (goal.at.fit_rows-fit-requires c).After-numbers-own in
    let old = old_ok (x s) (l s) s.args.place s.args.fresh.now s.requires in
    (numbers_ok s.args.setup (old_record s.args.subareas.now s.args.place) old.0 old.1 (old_is (goal.at.fit_rows-fit-requires c).After-numbers-own), (s.requires.work.basin.run.raining, s.requires.work.basin.run.lengths.most))

pub returns-in_err-refused_at : goal.returns-in_err-refused_at
returns-in_err-refused_at c =
    let o = (goal.at.returns-in_err-refused_at c).After-fit_rows-fit in
    record { value = search (rules, unfit_told o); storage_value = search (rules, unfit_left o) }

pub forged_check-requires : goal.forged_check-requires
forged_check-requires c =
    let ok = c.requires.work in
    ok.basin.run.lengths.held_long ∙ sym ok.basin.run.lengths.out_long

pub returns-in_err-forged_check : goal.returns-in_err-forged_check
returns-in_err-forged_check c =
    let o = (goal.at.returns-in_err-forged_check c).After-fit_rows-fit in
    record { value = search (rules, forged_told o (search rules)); storage_value = search (rules, forged_left o (search rules)) }

pub most_volume-requires : goal.most_volume-requires
most_volume-requires c =
    let n = (goal.at.most_volume-requires c).After-numbers-own in
    let s = S n in
    let good = numbers_ok s.args.setup s.args.fresh.now s.requires.fresh s.requires.area n.numbers-own.ensures in
    (good.curved, (good.area_most, s.requires.work.basin.run.raining))

pub overflow_add-all : goal.overflow_add-all
overflow_add-all c =
    let o = (goal.at.overflow_add-all c).After-fit_rows-fit in
    let n = N o in
    let s = S n in
    omega (arith, (all_most (x s) (l s) s.args.place s.args.fresh.now s.requires (clear o (search rules) (search rules)) (old_is n) n.numbers-own.ensures o.fit_rows-fit.ensures c.most_volume.ensures).0)

pub settle-requires : goal.settle-requires
settle-requires c =
    let o = (goal.at.settle-requires c).After-fit_rows-fit in
    let n = N o in
    let s = S n in
    let fresh = s.args.fresh.now in
    let found = clear o (search rules) (search rules) in record {
      swap_fit = rw o.new-pond.ensures.numbers (swap_fit (x s) (l s) s.args.place fresh s.requires found (old_is n) n.numbers-own.ensures);
      half = o.new-pond.ensures.half;
      all_bound = all_most (x s) (l s) s.args.place fresh s.requires found (old_is n) n.numbers-own.ensures o.fit_rows-fit.ensures c.most_volume.ensures;
    }

pub returns : goal.returns
returns c =
    let o = (goal.at.returns c).After-fit_rows-fit in
    let n = N o in
    let s = S n in
    let h = s.args.setup.step / 2 in
    let ws = new_by s.args.setup.step s.args.rain.now n.numbers-old.result n.numbers-own.result s.args.inflow.now in
    let p = o.new-pond.ensures.numbers in
    let value = c.settle.ensures.value ∙ (λ i. settled_from h c.altered_classes-classes.result (p i) (l s) ws) in
    let left = c.settle.ensures.storage_value ∙ (λ i. settled_rows_from h (p i) (l s) ws) in
    let whole = rows_pass (x s) (l s) s.args.place s.args.fresh.now (passes o (search rules) (search rules)) c.altered_classes-classes.ensures (new n) value left in
    record { value = whole.0; storage_value = whole.1 }
