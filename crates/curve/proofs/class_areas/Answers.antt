-- `curve::class_areas` meets its contract. The invariant: the class areas of the patches passed. Assumes nothing.
use mathlib.Core.Path.{◌≡◌, ◌∙◌}
use native.Mathlib.Omega.{arith}
use borrow.Author.Rules.{rules}
use Rattle.laws.specs.Sum.{sum_to}
use Rattle.curve.specs.CurveNumbers.{patches_in}
use Rattle.curve.proofs.Mean.{class_fits, classes_more}
use Rattle.curve.proofs.Patches.{patch_at}
use Rattle.curve.proofs.class_areas.Goals as goal

pub loop-patch-init : goal.loop-patch-init
unfolding sum_to
loop-patch-init c = search rules

pub add-so-requires : goal.add-so-requires
add-so-requires c =
    let p = c.args.patches.now in
    let i = c.loop-patch.patch-index in
    let a = patch_at c.as_chunks.ensures.front c.loop-patch-test.true in
    rw (c.loop-patch.invariant, c.alone.ensures, a.cover, a.area)
    (record {
      surfaces = omega (arith, class_fits p c.requires 1 i a.inside);
      districts = omega (arith, class_fits p c.requires 2 i a.inside);
      lots = omega (arith, class_fits p c.requires 3 i a.inside);
      rural = omega (arith, class_fits p c.requires 4 i a.inside);
    })

pub loop-patch-preserved : goal.loop-patch-preserved
loop-patch-preserved c =
    let a = patch_at c.as_chunks.ensures.front c.loop-patch-test.true in
    c.add-so.ensures ∙ rw (c.loop-patch.invariant, c.alone.ensures, a.cover, a.area) (classes_more c.args.patches.now c.loop-patch.patch-index)

pub returns : goal.returns
returns c =
    let all : c.loop-patch.patch-index ≡ patches_in c.args.patches.now = omega (arith, c.as_chunks.ensures.front_len) in
    rw all at c.loop-patch.invariant
