-- `textbook::run` meets its contract. Assumes nothing.
use Rattle.std.proofs.Common.{rules}
use mathlib.Core.Path.{◌≡◌, sym, ap, ◌∙◌}
use Prim.Native.Nat.{ℕ}
use native.Mathlib.Omega.{arith}
use lib.ListN.{length}
use Rattle.laws.specs.Listed.{rows_from}
use Rattle.laws.proofs.Listed.{rows_length, zeros_all}
use Rattle.refusals.proofs.Orders.{refused_old, passed_new}
use Rattle.checks.specs.Site.{basin, found}
use Rattle.checks.proofs.Ready.{inflow_ready}
use Rattle.textbook.specs.Textbook.{textbook_rows, textbook_refusal}
use Rattle.textbook.proofs.run.Goals as goal
use Rattle.textbook.proofs.run.Goals.{After-fill}

-- what is filled is rows of zeros, as many as there were
zeros : (c : After-fill) → c.fill.new.self ≡ rows_from (λ (k : ℕ). 0) 1 (length c.args.rows.now)
zeros c = c.fill.ensures.after (λ y e. e) ∙ zeros_all 1 (length c.args.rows.now)

long : (c : After-fill) → length c.fill.new.self ≡ length c.args.rows.now
long c = ap length (zeros c) ∙ rows_length (λ (k : ℕ). 0) 1 (length c.args.rows.now)

pub returns-in_err-inflow_checks-clause-rows_after : goal.returns-in_err-inflow_checks-clause-rows_after
unfolding textbook_refusal
returns-in_err-inflow_checks-clause-rows_after c = search (rules, refused_old)

pub add_records-requires : goal.add_records-requires
add_records-requires c =
    let x = basin c.args.setup c.args.rain.now c.args.subareas.now in
    let l = found c.args.rows.now c.args.outflow.now c.args.storage.now in
    let r = inflow_ready x l (search rules) in
    let e = long (goal.at.add_records-requires c).After-fill in
    (r.list, (r.run.raining, (omega (arith, r.run.few, r.run.lengths.most), (omega (arith, e, r.run.lengths.most), zeros (goal.at.add_records-requires c).After-fill ∙ ap (rows_from (λ (k : ℕ). 0) 1) (sym e)))))

pub returns-clause-rows_after : goal.returns-clause-rows_after
unfolding textbook_refusal
returns-clause-rows_after c =
    let x = basin c.args.setup c.args.rain.now c.args.subareas.now in
    let l = found c.args.rows.now c.args.outflow.now c.args.storage.now in
    c.add_records.ensures
    ∙ ap (textbook_rows c.args.setup c.args.rain.now c.args.subareas.now) (long (goal.at.returns-clause-rows_after c).After-fill)
    ∙ passed_new {v = textbook_refusal x l} (search rules) _ _
