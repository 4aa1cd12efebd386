-- `alter::altered_classes` meets its contract. Assumes nothing.
use mathlib.Core.Path.{◌≡◌, ap, ◌∙◌}
use mathlib.Core.List.{List}
use Prim.Native.Nat.{ℕ}
use Rattle.curve.specs.CurveNumbers.{classes_of}
use Rattle.curve.specs.declared.Classes.{Classes}
use Rattle.subarea.specs.Records.{patches}
use Rattle.study.specs.Study.{classes_all}
use Rattle.alter.specs.Altering.{old_record}
use Rattle.alter.specs.Needs.{classes_swapped}
use Rattle.alter.proofs.Ground.{classes_altered, swap_ok}
use Rattle.alter.proofs.altered_classes.Goals as goal
use Rattle.alter.proofs.altered_classes.Goals.{After-classes-old}

-- the class areas of the old record
old : (c : After-classes-old) → c.classes-old.result ≡ classes_of (patches (old_record c.args.subareas.now c.args.place))
old c =
    c.classes-old.ensures ∙ ap (λ (z : List ℕ). classes_of (patches z)) c.old_record.ensures.own

pub swap_classes-requires : goal.swap_classes-requires
swap_classes-requires c =
    rw (c.all_classes-all.ensures, old (goal.at.swap_classes-requires c).After-classes-old, c.classes-own.ensures) (swap_ok c.args.subareas.now c.args.place c.args.fresh.now c.requires)

pub returns : goal.returns
returns c =
    c.swap_classes.ensures
    ∙ ap (λ (z : Classes). classes_swapped z c.classes-old.result c.classes-own.result) c.all_classes-all.ensures
    ∙ ap (λ (z : Classes). classes_swapped (classes_all c.args.subareas.now) z c.classes-own.result) (old (goal.at.returns c).After-classes-old)
    ∙ ap (classes_swapped (classes_all c.args.subareas.now) (classes_of (patches (old_record c.args.subareas.now c.args.place)))) c.classes-own.ensures
    ∙ classes_altered c.args.subareas.now c.args.place c.args.fresh.now c.requires.place
