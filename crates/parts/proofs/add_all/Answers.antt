-- `parts::add_all` meets its contract. Assumes nothing.
use mathlib.Core.Path.{◌≡◌, ap, ◌∙◌}
use mathlib.Core.List.{List}
use Prim.Native.Nat.{ℕ, ◌+◌, ◌-◌}
use native.Mathlib.Nat.{le_refl}
use native.Mathlib.Omega.{arith}
use borrow.Rule.Slice.PartMut.{mid_of, mid_len, same_len_mid}
use lib.ListN.{length}
use Rattle.laws.specs.Listed.{plus}
use Rattle.parts.specs.Needs.{part_by}
use Rattle.parts.proofs.Added.{parted_skip, parted_turn, parted_end, mid_room}
use Rattle.parts.proofs.Through.{dry_part}
use Rattle.parts.proofs.add_all.Goals as goal

-- how long a tail is
tail_long : (l : List ℕ) (a : ℕ) → length (mid_of a (length l - a) l) ≡ length l - a
tail_long l a = mid_len a (length l) l (le_refl _)

pub add_from-requires : goal.add_from-requires
add_from-requires c =
    let d = c.dry_rows-dry.result in
    let rows = c.args.rows.now in
    let long = tail_long rows d in record { numbers_ok = (c.requires.numbers_ok.0, (c.requires.numbers_ok.1.0, (mid_room rows c.requires.numbers_ok.1.1.0 d (length rows) (le_refl _), omega (arith, long, c.dry_rows-dry.ensures.0, c.requires.numbers_ok.1.1.1)))); rain_len_bound = (c.requires.rain_len_bound.0, (omega (arith, long, tail_long c.args.q.now d, c.requires.rain_len_bound.1.0), omega (arith, long, tail_long c.args.sums.now d, c.requires.rain_len_bound.1.1))) }

pub returns : goal.returns
returns c =
    let d = c.dry_rows-dry in
    let rows = c.args.rows.now in
    let f = part_by c.args.step c.args.rain.now c.args.own in
    let row : d.result + 1 ≡ 1 + d.result = omega arith in
    let skip = parted_skip f 1 rows d.result d.ensures.0 (λ j h. dry_part c.args.step c.args.rain.now c.args.own c.requires.numbers_ok.0 c.requires.numbers_ok.1.0 d.result (1 + j) d.ensures.1 (omega arith) (omega arith)) in
    let all = parted_turn f 1 rows skip (length rows) c.add_from.new.rows d.ensures.0 (le_refl _) (c.add_from.ensures.rows_after ∙ ap (λ (k : ℕ). plus f k (mid_of d.result (length rows - d.result) rows)) row) in record {
      rows_after = parted_end f 1 rows all (λ j lo hi. absurd (omega arith));
      q_len_unchanged = (
        same_len_mid d.result (length c.args.q.now - d.result) c.args.q.now c.add_from.new.q c.add_from.ensures.q_len_unchanged.0,
        same_len_mid d.result (length c.args.sums.now - d.result) c.args.sums.now c.add_from.new.sums c.add_from.ensures.q_len_unchanged.1,
      );
    }
