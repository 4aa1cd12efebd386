-- `alter::old_record` meets its contract. Assumes nothing.
use mathlib.Core.Path.{ap, ◌∙◌}
use Prim.Native.Nat.{◌-◌, ◌<◌}
use native.Mathlib.Omega.{arith}
use lib.ListN.{length}
use Rattle.subarea.proofs.Subareas.{record_length, listed_length, listed_at}
use Rattle.alter.proofs.old_record.Goals as goal

pub bounds-records-place : goal.bounds-records-place
bounds-records-place c =
    omega (arith, ap length c.records.ensures, listed_length c.args.subareas.now, c.requires.1.0, c.requires.1.1)

pub returns-clause-own : goal.returns-clause-own
returns-clause-own c =
    let l = c.args.subareas.now in
    let inside : c.args.place - 1 < length c.records.result.now = omega (arith, ap length c.records.ensures, listed_length l, c.requires.1.0, c.requires.1.1) in
    (listed_at {s = l} {list = c.records.result.now} {i = c.args.place - 1} c.records.ensures inside).own

pub returns-clause-whole : goal.returns-clause-whole
returns-clause-whole c =
    let l = c.args.subareas.now in
    let inside : c.args.place - 1 < length c.records.result.now = omega (arith, ap length c.records.ensures, listed_length l, c.requires.1.0, c.requires.1.1) in
    let a = listed_at {s = l} {list = c.records.result.now} {i = c.args.place - 1} c.records.ensures inside in
    ap length a.own ∙ record_length l c.requires.0 (c.args.place - 1) a.inside
