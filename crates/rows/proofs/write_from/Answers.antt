-- `rows::write_from` meets its contract: only the tails are lent onward. Assumes nothing.
use mathlib.Core.Path.{◌≡◌, sym, ap, subst, ◌∙◌}
use mathlib.Core.List.{List, ◌++◌}
use Prim.Native.Nat.{ℕ, ◌-◌, ◌<◌}
use native.Mathlib.Omega.{arith}
use lib.ListN.{length, take, drop, length-drop}
use Rattle.laws.proofs.Fill.{tail_part, tail_back}
use Rattle.pond.specs.declared.State.{State}
use Rattle.pond.specs.declared.Pond.{Pond}
use Rattle.rows.specs.declared.Level.{Level}
use Rattle.rows.specs.declared.Tally.{Tally}
use Rattle.rows.specs.declared.Kept.{Kept}
use Rattle.rows.specs.declared.RowFigures.{RowFigures}
use Rattle.rows.specs.Routing.{outflow_of, storage_of, outflows, storages, state_before}
use Rattle.rows.specs.Needs.{tally_to, tally_on, kept_of, RowsOk}
use Rattle.rows.specs.Figures.{at, figures_of}
use Rattle.rows.proofs.Columns.{inflow_tail}
use Rattle.rows.proofs.Turns.{sums_ok, rows_before, tally_rest, tally_most, figures_told}
use Rattle.rows.proofs.Writes.{before_ok, whole_of, whole_long, whole_ok, on_whole}
use Rattle.rows.proofs.write_from.Lts as Lts
use Rattle.rows.proofs.write_from.Reads as Reads
use Rattle.rows.proofs.write_from.Tie as Tie
use Rattle.rows.proofs.write_from.Goals as goal

abbrev At-Start : Type 0
At-Start = Lts.Start Tie.the-claims Reads.Pre Reads.Post Tie.handed_clauses

abbrev At-After-write_tail-tally : Type 0
At-After-write_tail-tally = Lts.After-write_tail Tie.the-claims Reads.Pre Reads.Post Tie.handed_clauses

-- a list whose tail came back from routing
back : (column : ℕ → List ℕ → State → List ℕ → List ℕ) (l vs tail ws : List ℕ) (a : ℕ) (v : Level) (pond : Pond) (new : State)
    → tail ≡ column v.pond.half v.pond.table.numbers.now v.state ws → ws ≡ drop a vs → v.pond ≡ pond → v.state ≡ new
    → take a l ++ tail ≡ take a l ++ column pond.half pond.table.numbers.now new (drop a vs)
back column l vs tail ws a v pond new e f p g = ap (λ (z : List ℕ). take a l ++ z) (e ∙ (λ j. column (p j).half (p j).table.numbers.now (g j) (f j)))

-- a tally that came back from it
on : (r f new : Tally) (a : ℕ) (v : Level) (pond : Pond) (from : State) (ws vs : List ℕ)
    → r ≡ tally_on v.pond.half v.pond.table.numbers.now f a v.state ws → f ≡ new → v.pond ≡ pond → v.state ≡ from → ws ≡ vs
    → r ≡ tally_on pond.half pond.table.numbers.now new a from vs
on r f new a v pond from ws vs e t p g w = e ∙ (λ j. tally_on (p j).half (p j).table.numbers.now (t j) a (g j) (w j))

-- the function's entry, from the call that writes the tails
abbrev start : At-After-write_tail-tally → At-Start
start g = g.before.before.before.before.before.before.before.before.before.before.before

-- the outflow and storage that will stand
abbrev new_out : At-Start → List ℕ
new_out s = whole_of s.args.pond.now.half s.args.pond.now.table.numbers.now outflow_of s.args.outflow.now (state_before s.args.outflow.now s.args.storage.now s.args.a) s.args.inflow.now s.args.a

abbrev new_held : At-Start → List ℕ
new_held s = whole_of s.args.pond.now.half s.args.pond.now.table.numbers.now storage_of s.args.storage.now (state_before s.args.outflow.now s.args.storage.now s.args.a) s.args.inflow.now s.args.a

-- they can be a pond's
rows_ok : (s : At-Start) → RowsOk s.args.pond.now.half s.args.pond.now.table.numbers.now (new_out s) (new_held s)
rows_ok s =
    whole_ok s.args.pond.now.sound s.args.inflow.now s.args.outflow.now s.args.storage.now s.args.a s.requires.rows_ok.0 s.requires.rows_ok.1.1 s.requires.passes s.requires.lengths.0 s.requires.lengths.1.0 s.requires.lengths.1.1.1

-- as many as there are inflows
long : (s : At-Start) → length (new_out s) ≡ length s.args.inflow.now
long s =
    whole_long s.args.pond.now.half s.args.pond.now.table.numbers.now outflow_of s.args.outflow.now (state_before s.args.outflow.now s.args.storage.now s.args.a) s.args.inflow.now s.args.a s.requires.lengths.0 s.requires.rows_ok.1.1

-- the tally that came back is theirs
tallied : (g : At-After-write_tail-tally) → g.write_tail-tally.result ≡ tally_to (start g).args.pond.now.half 0 (start g).args.inflow.now (new_out (start g)) (new_held (start g)) (length (new_out (start g)))
tallied g =
    let s = start g in
    let vs = s.args.inflow.now in
    let os = s.args.outflow.now in
    let ss = s.args.storage.now in
    let a = s.args.a in
    on _ _ _ a g.new-level.result _ _ _ _ g.write_tail-tally.ensures.value g.tally_of-earlier.ensures g.new-level.ensures.pond (g.new-level.ensures.state ∙ g.state_before-state.ensures) (tail_part vs a)
    ∙ on_whole s.args.pond.now.sound vs os ss a s.requires.rows_ok.0 s.requires.rows_ok.1.1 s.requires.passes s.requires.lengths.0 s.requires.lengths.1.0

-- figures of lists that came back
figures : (h : ℕ) (p vs os ss outs helds : List ℕ) (m : ℕ) (tally : Tally) (kept : Kept) → outs ≡ os → helds ≡ ss → length os ≡ m → kept ≡ kept_of h p tally m
    → ◌≡◌ {A = RowFigures} (record { inflow = tally.inflow; storage = at ss (length os - 1); kept = kept_of h p tally (length os) }) (figures_of h p vs os ss)
    → ◌≡◌ {A = RowFigures} (record { inflow = tally.inflow; storage = at helds (m - 1); kept = kept }) (figures_of h p vs outs helds)
figures h p vs os ss outs helds m tally kept e f g k told = rw (e, f, k, ← g) told

pub tally_of-earlier-requires : goal.tally_of-earlier-requires
tally_of-earlier-requires c =
    let inside = c.requires.rows_ok.1.1 in
    record { sums_ok = (sums_ok c.args.pond.now.sound c.requires.rows_ok.0, (c.requires.rows_ok.1.0, omega (arith, inside, c.requires.lengths.1.1.1))); a_in_bounds = (inside, (omega (arith, inside, c.requires.lengths.0), omega (arith, inside, c.requires.lengths.1.0))) }

pub new-level-requires : goal.new-level-requires
new-level-requires c =
    rw c.state_before-state.ensures (before_ok c.args.pond.now.half c.args.pond.now.table.numbers.now c.args.outflow.now c.args.storage.now c.args.a c.requires.rows_ok.0)

pub write_tail-tally-requires : goal.write_tail-tally-requires
write_tail-tally-requires c =
    let vs = c.args.inflow.now in
    let os = c.args.outflow.now in
    let ss = c.args.storage.now in
    let a = c.args.a in
    let inside = c.requires.rows_ok.1.1 in
    rw (tail_part vs a, tail_part os a, tail_part ss a, c.new-level.ensures.pond, c.new-level.ensures.state, c.state_before-state.ensures, c.tally_of-earlier.ensures) record {
      room = (
        inflow_tail vs a c.requires.rows_ok.1.0,
        tally_rest c.args.pond.now.half vs os ss a (length (drop a vs)) (sums_ok c.args.pond.now.sound c.requires.rows_ok.0) c.requires.rows_ok.1.0 inside (omega (arith, length-drop a vs, inside, c.requires.lengths.1.1.1)),
      );
      passes = c.requires.passes ∙ sym (length-drop a vs);
      lengths = (simp length-drop (omega (arith, c.requires.lengths.0)), simp length-drop (omega (arith, c.requires.lengths.1.0)));
    }

pub overflow_sub-result : goal.overflow_sub-result
overflow_sub-result c = (start c.before.before.before.before.before).requires.lengths.1.1.0

pub offset_bounds-storage-m : goal.offset_bounds-storage-m
offset_bounds-storage-m c = omega (arith, (start c.before.before.before.before.before).requires.lengths.1.1.1)

pub bounds-storage-m : goal.bounds-storage-m
bounds-storage-m c =
    let s = start c.before.before.before.before.before.before in
    let a = s.args in
    let all = tail_part a.inflow.now a.a in
    let st = c.new-level.ensures.state ∙ c.state_before-state.ensures in
    let pond = c.new-level.ensures.pond in
    let held = tail_back a.storage.now _ a.a ∙ back storages a.storage.now a.inflow.now _ _ a.a c.new-level.result _ _ c.write_tail-tally.ensures.storage_after all pond st in
    subst (λ (l : List ℕ). length a.inflow.now - 1 < length l) (sym held) (omega (arith, (rows_ok s).long, long s, s.requires.lengths.1.1.0))

pub kept-requires : goal.kept-requires
kept-requires c =
    let s = start c.before.before.before.before.before.before in
    tally_most s.args.inflow.now c.write_tail-tally.result (rows_before (rows_ok s) _ (omega arith)) (tallied c.before.before.before.before.before.before)

pub returns : goal.returns
returns c =
    let s = start c.before.before.before.before.before.before.before in
    let a = s.args in
    let all = tail_part a.inflow.now a.a in
    let st = c.new-level.ensures.state ∙ c.state_before-state.ensures in
    let pond = c.new-level.ensures.pond in
    let outs = tail_back a.outflow.now _ a.a ∙ back outflows a.outflow.now a.inflow.now _ _ a.a c.new-level.result _ _ c.write_tail-tally.ensures.outflow_after all pond st in
    let helds = tail_back a.storage.now _ a.a ∙ back storages a.storage.now a.inflow.now _ _ a.a c.new-level.result _ _ c.write_tail-tally.ensures.storage_after all pond st in record {
      value = figures a.pond.now.half a.pond.now.table.numbers.now a.inflow.now (new_out s) (new_held s) _ _ (length a.inflow.now) c.write_tail-tally.result c.kept.result outs helds (long s) c.kept.ensures
          (figures_told s.args.pond.now.sound a.inflow.now (new_out s) (new_held s) (rows_ok s) (sym (long s)) c.write_tail-tally.result (tallied c.before.before.before.before.before.before.before));
      outflow_after = outs;
      storage_after = helds;
    }
