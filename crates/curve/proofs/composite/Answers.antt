-- `curve::composite` meets its contract. The invariant: the two sums over the patches passed. Assumes nothing.
use mathlib.Core.Path.{◌≡◌, refl}
use Prim.Native.Nat.{◌+◌}
use native.Mathlib.Omega.{arith}
use Rattle.laws.specs.Sum.{sum_to}
use Rattle.laws.proofs.Num.{mul_fits}
use Rattle.laws.proofs.Sums.{sum_more}
use Rattle.curve.specs.CurveNumbers.{patches_in, cover, soil, area, weighted_at, total_area, weighted, composite_tenths}
use Rattle.curve.proofs.Table.{cover_ok}
use Rattle.curve.proofs.Mean.{area_to, weighted_to, area_some}
use Rattle.curve.proofs.Patches.{patch_at}
use Rattle.curve.proofs.composite.Goals as goal

pub loop-cover-init : goal.loop-cover-init
unfolding sum_to
loop-cover-init c = (refl, refl)

pub cover_number-requires : goal.cover_number-requires
cover_number-requires c =
    let a = patch_at c.as_chunks.ensures.front c.loop-cover-test.true in
    rw (a.cover, a.soil) (c.requires.each c.loop-cover.cover-index a.inside).place

pub overflow_mul-weighted : goal.overflow_mul-weighted
overflow_mul-weighted c =
    let p = c.args.patches.now in
    let i = c.loop-cover.cover-index in
    let a = patch_at c.as_chunks.ensures.front c.loop-cover-test.true in
    let patch = c.requires.each i a.inside in
    mul_fits 98 200000 (rw (c.cover_number.ensures, a.cover, a.soil) (cover_ok (cover p i) (soil p i) patch.place).most) (rw a.area patch.area_most) tt

pub overflow_add-weighted : goal.overflow_add-weighted
overflow_add-weighted c =
    let p = c.args.patches.now in
    let i = c.loop-cover.cover-index in
    let a = patch_at c.as_chunks.ensures.front c.loop-cover-test.true in
    rw (c.cover_number.ensures, a.cover, a.soil, a.area) (omega (arith, sum_more (weighted_at p) i, weighted_to p c.requires (i + 1) (omega (arith, a.inside)), c.requires.most))

pub overflow_add-area : goal.overflow_add-area
overflow_add-area c =
    let p = c.args.patches.now in
    let i = c.loop-cover.cover-index in
    let a = patch_at c.as_chunks.ensures.front c.loop-cover-test.true in
    rw a.area (omega (arith, sum_more (area p) i, area_to p c.requires (i + 1) (omega (arith, a.inside)), c.requires.most))

pub loop-cover-preserved : goal.loop-cover-preserved
loop-cover-preserved c =
    let p = c.args.patches.now in
    let i = c.loop-cover.cover-index in
    let a = patch_at c.as_chunks.ensures.front c.loop-cover-test.true in
    rw (c.cover_number.ensures, a.cover, a.soil, a.area) (omega (arith, sum_more (area p) i), omega (arith, sum_more (weighted_at p) i))

pub mean_tenths-requires : goal.mean_tenths-requires
unfolding total_area
mean_tenths-requires c =
    let p = c.args.patches.now in
    let n = patches_in p in
    let all : c.loop-cover.cover-index ≡ n = omega (arith, c.as_chunks.ensures.front_len) in
    let sums = rw all at c.loop-cover.invariant in
    omega (arith, sums.0, sums.1, area_some p c.requires, area_to p c.requires n (omega arith), weighted_to p c.requires n (omega arith), c.requires.most)

pub returns : goal.returns
unfolding composite_tenths weighted total_area
returns c =
    let all : c.loop-cover.cover-index ≡ patches_in c.args.patches.now = omega (arith, c.as_chunks.ensures.front_len) in
    let sums = rw all at c.loop-cover.invariant in
    rw (c.mean_tenths.ensures, sums.0, sums.1)
