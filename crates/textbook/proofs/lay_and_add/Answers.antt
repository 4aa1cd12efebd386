-- `textbook::lay_and_add` meets its contract. Assumes nothing.
use mathlib.Core.Path.{◌≡◌, ap, ◌∙◌}
use mathlib.Core.List.{List}
use Prim.Native.Nat.{ℕ}
use lib.ListN.{length}
use Rattle.laws.specs.Listed.{plus}
use Rattle.laws.proofs.Listed.{plus_length}
use Rattle.hydrograph.specs.InflowRows.{weights, total_weight}
use Rattle.textbook.specs.Needs.{laid_to, part_of_laid, SumsOk}
use Rattle.textbook.proofs.lay_and_add.Goals as goal
use Rattle.textbook.proofs.lay_and_add.Goals.{After-lay-total, Start}

abbrev start : After-lay-total → Start
start c = (goal.at.After-lay-total c).Start

same_sums : {w v : ℕ} {l m : List ℕ} → w ≡ v → l ≡ m → SumsOk v m → SumsOk w l
same_sums e d ok = rw (e, d) ok

-- laying keeps the length
long : (c : After-lay-total) → length c.lay-total.new.rows ≡ length (start c).args.laid.now
long c =
    let s = start c in
    ap length c.lay-total.ensures.1 ∙ plus_length (laid_to s.args.more.now s.args.peak s.args.step (weights s.args.peak s.args.step)) 1 s.args.laid.now

pub lay-total-requires : goal.lay-total-requires
lay-total-requires c =
    let p = c.requires in
    (p.timed, (p.steps, p.empty))

pub add_parts-requires : goal.add_parts-requires
add_parts-requires c =
    let p = (start (goal.at.add_parts-requires c).After-lay-total).requires in
    (p.area, (same_sums c.lay-total.ensures.0 c.lay-total.ensures.1 p.sums, (long (goal.at.add_parts-requires c).After-lay-total ∙ p.long, p.room)))

pub returns : goal.returns
returns c =
    let s = start (goal.at.returns c).After-lay-total in
    c.add_parts.ensures
    ∙ ap (λ (w : ℕ). plus (part_of_laid s.args.area w c.lay-total.new.rows) 1 s.args.rows.now) c.lay-total.ensures.0
    ∙ ap (λ (l : List ℕ). plus (part_of_laid s.args.area (total_weight s.args.peak s.args.step) l) 1 s.args.rows.now) c.lay-total.ensures.1
