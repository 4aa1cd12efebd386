-- `sheet::site::patch_line` asks for the curve number of a patch within its limits, which fits in tenths.
use mathlib.Core.Path.{sym, ◌∙◌}
use native.Mathlib.Omega.{arith}
use Rattle.curve.proofs.Limits.{patches_ok}
use Rattle.curve.proofs.Table.{cover_ok}
use Rattle.sheet.proofs.site.patch_line.Goals as goal

-- the list passes, so that it has a patch, whole and within its limits
pub cover_number-tenths-requires : goal.cover_number-tenths-requires
cover_number-tenths-requires c =
    let ok = patches_ok _ (sym c.patches_good.ensures ∙ c.if-not-patches_good.false) in
    (ok.each 0 ok.least).place

pub overflow_mul-tenths : goal.overflow_mul-tenths
overflow_mul-tenths c =
    let ok = patches_ok _ (sym c.patches_good.ensures ∙ c.if-not-patches_good.false) in
    omega (arith, c.cover_number-tenths.ensures, (cover_ok _ _ (ok.each 0 ok.least).place).most)
