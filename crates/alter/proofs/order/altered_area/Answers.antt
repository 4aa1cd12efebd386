-- `alter::order::altered_area` meets its contract. Assumes nothing.
use mathlib.Core.Path.{◌≡◌, ap, ◌∙◌}
use mathlib.Core.List.{List}
use Prim.Native.Nat.{ℕ}
use native.Mathlib.Omega.{arith}
use Rattle.curve.specs.declared.Ground.{Ground}
use Rattle.subarea.specs.Records.{area_of}
use Rattle.alter.specs.Altering.{old_record}
use Rattle.alter.proofs.OnlyFresh.{old_area}
use Rattle.alter.proofs.Ground.{area_room}
use Rattle.alter.proofs.order.altered_area.Goals as goal
use Rattle.alter.proofs.order.altered_area.Goals.{After-all_area, Start}

abbrev S : After-all_area → Start
S c = (goal.at.After-all_area c).Start

-- the old record's area and the fresh one's
old : (c : After-all_area) → c.ground-old.result.area ≡ area_of (old_record (S c).args.subareas.now (S c).args.place)
old c = ap (λ (z : Ground). z.area) c.ground-old.ensures ∙ ap (λ (z : List ℕ). area_of z) c.old_record.ensures.own

own : (c : After-all_area) → c.ground-own.result.area ≡ area_of (S c).args.fresh.now
own c = ap (λ (z : Ground). z.area) c.ground-own.ensures

pub overflow_sub-result : goal.overflow_sub-result
overflow_sub-result c =
    let s = S (goal.at.overflow_sub-result c).After-all_area in
    omega (arith, old (goal.at.overflow_sub-result c).After-all_area, c.all_area.ensures, old_area s.args.subareas.now s.args.place s.args.fresh.now s.requires.place)

pub overflow_add-result : goal.overflow_add-result
overflow_add-result c =
    let s = S (goal.at.overflow_add-result c).After-all_area in
    omega (arith, own (goal.at.overflow_add-result c).After-all_area, c.all_area.ensures, area_room s.args.subareas.now s.args.place s.args.fresh.now s.requires)
