-- `textbook::add_records` meets its contract. Assumes nothing.
use mathlib.Core.Path.{◌≡◌, sym, ap, ◌∙◌}
use mathlib.Core.List.{List}
use Prim.Native.Nat.{ℕ, ◌≤◌}
use native.Mathlib.Omega.{arith}
use lib.ListN.{length}
use Rattle.laws.proofs.Sums.{sum_term}
use Rattle.laws.specs.Limits.{most_area}
use Rattle.laws.specs.Listed.{plus, rows_from}
use Rattle.laws.proofs.Listed.{rows_length, added_none, added_more}
use Rattle.subarea.specs.Records.{records_in, record_at, area_of}
use Rattle.textbook.specs.Textbook.{part_laid_of}
use Rattle.subarea.proofs.Subareas.{listed_length, listed_at}
use Rattle.textbook.proofs.Rows.{textbook_to, textbook_room}
use Rattle.textbook.proofs.add_records.Goals as goal

pub loop-own-init : goal.loop-own-init
loop-own-init c =
    c.requires.1.1.1.1 ∙ sym (added_none (λ j. part_laid_of c.args.setup c.args.rain.now (record_at c.args.subareas.now j)) (length c.args.rows.now))

pub add_record-requires : goal.add_record-requires
add_record-requires c =
    let l = c.args.subareas.now in
    let i = c.loop-own.own-index in
    let a = listed_at {s = l} {list = c.records-own-items.result.now} {i = i} c.records-own-items.ensures c.loop-own-test.true in
    let room = textbook_room c.args.setup c.args.rain.now l c.requires.1.0 c.requires.0 i (length c.args.rows.now) (omega (arith, a.inside)) c.requires.1.1.1.0 in
    let small : area_of (record_at l i) ≤ most_area = omega (arith, c.requires.0.area, sum_term (λ k. area_of (record_at l k)) i (records_in l) a.inside) in
    rw a.own (c.requires.0.each i a.inside, (small, (c.requires.1.0, (c.requires.1.1.0, rw c.loop-own.invariant room))))

pub loop-own-preserved : goal.loop-own-preserved
loop-own-preserved c =
    let l = c.args.subareas.now in
    let i = c.loop-own.own-index in
    let a = listed_at c.records-own-items.ensures c.loop-own-test.true in
    c.add_record.ensures
    ∙ ap (λ (r : List ℕ). plus (part_laid_of c.args.setup c.args.rain.now r) 1 c.loop-own.rows) a.own
    ∙ ap (plus (part_laid_of c.args.setup c.args.rain.now (record_at l i)) 1) c.loop-own.invariant
    ∙ added_more (λ j. part_laid_of c.args.setup c.args.rain.now (record_at l j)) i (length c.args.rows.now)

pub shape_of-rows : goal.shape_of-rows
shape_of-rows c =
    ap length c.loop-own.invariant ∙ rows_length (textbook_to c.args.setup c.args.rain.now c.args.subareas.now c.loop-own.own-index) 1 (length c.args.rows.now)

pub returns : goal.returns
returns c =
    let l = c.args.subareas.now in
    let all : c.loop-own.own-index ≡ records_in l = omega (arith, ap length c.records-own-items.ensures, listed_length l) in
    c.loop-own.invariant ∙ ap (λ (i : ℕ). rows_from (textbook_to c.args.setup c.args.rain.now l i) 1 (length c.args.rows.now)) all
