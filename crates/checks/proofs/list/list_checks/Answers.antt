-- `checks::list::list_checks` meets its contract. Assumes nothing.
use Rattle.std.proofs.Common.{rules}
use Rattle.checks.proofs.Ready.{patches_left, segments_left}
use Rattle.checks.proofs.list.list_checks.Goals as goal

pub all_area-requires : goal.all_area-requires
all_area-requires c = (c.requires.1, patches_left c.args.setup.rule c.args.subareas.now (search rules))

pub timing_checks-requires : goal.timing_checks-requires
timing_checks-requires c = (c.requires.0, (c.requires.1, segments_left c.args.setup.rule c.args.subareas.now (search rules)))
