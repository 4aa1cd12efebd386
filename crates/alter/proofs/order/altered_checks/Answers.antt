-- `alter::order::altered_checks` meets its contract. Assumes nothing.
use Rattle.std.proofs.Common.{rules, ◌∙◌}
use Rattle.alter.proofs.Ready.{limits_stops, ground_left, routed_left, area_stops, timing_after}
use Rattle.alter.proofs.order.altered_checks.Goals as goal

pub returns-in_err-limits : goal.returns-in_err-limits
returns-in_err-limits c = search (rules, limits_stops c.args.setup c.args.subareas.now c.args.place c.args.fresh.now c.requires)

pub altered_area-requires : goal.altered_area-requires
altered_area-requires c = ground_left c.args.setup c.args.subareas.now c.args.place c.args.fresh.now c.requires (search rules)

pub returns-in_err-area_check : goal.returns-in_err-area_check
returns-in_err-area_check c = search (rules, area_stops c.args.setup c.args.subareas.now c.args.place c.args.fresh.now c.requires (search rules))

pub timing-requires : goal.timing-requires
timing-requires c = (c.requires.1.step.most, (c.requires.0.whole, routed_left c.args.setup c.args.subareas.now c.args.place c.args.fresh.now c.requires (search rules)))

pub returns : goal.returns
returns c = c.timing.ensures ∙ timing_after c.args.setup c.args.subareas.now c.args.place c.args.fresh.now c.requires (search rules) (search rules)
