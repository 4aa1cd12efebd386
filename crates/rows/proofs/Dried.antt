-- For a caller that runs a pond dry block by block: where its rows stand, and when no later row can go over. Assumes nothing.
use mathlib.Core.Path.{◌≡◌, refl, ap}
use mathlib.Core.List.{List, [], ◌∷◌, ◌++◌}
use Prim.Native.Nat.{ℕ, ◌+◌, ◌≤◌, ◌<◌}
use native.Mathlib.Omega.{arith}
use borrow.Author.Tests.{lt-ltb}
use Rattle.std.specs.Prelude.{None, Some}
use lib.ListN.{length, take, drop, take-append-drop, length-drop}
use lib.Seq.{length-take-le, take_all, take-add}
use Rattle.pond.specs.PondRows.{last_sum, arrived, next}
use Rattle.pond.specs.Needs.{PondOk, StateOk}
use Rattle.pond.specs.declared.State.{State}
use Rattle.pond.proofs.Steps.{settled_ok, settled_sum}
use Rattle.rows.specs.Routing.{end_of, passed, over_row, total}
use Rattle.rows.specs.Needs.{dry_of}
use Rattle.rows.proofs.Prefix.{end_append, passes_cons, passed_most, passed_append, passed_short, passed_part}
use Rattle.rows.proofs.Reached.{reach_ok}
use Rattle.rows.proofs.Told.{over_none, none_over, over_some}

-- more inflow never makes X less
pub arrived_rise : (h : ℕ) (st : State) (v w : ℕ) → v ≤ w → arrived h st v ≤ arrived h st w
unfolding arrived
arrived_rise h st v w l = omega arith

module _ {h : ℕ} {p : List ℕ} (ok : PondOk h p) where
  -- what is held before the next row is at most X of this one, so X of a later row is at most this one's and what comes between
  pub next_sum : (st : State) (v w : ℕ) → arrived h st v ≤ last_sum h p → arrived h (next h p st v) w ≤ arrived h st (v + w)
  unfolding arrived
  next_sum st v w top = omega (arith, settled_sum ok (arrived h st v) top)

  -- no row goes over where all inflow at once would not
  pub later_sums : (st : State) (ws : List ℕ) → StateOk h p st → arrived h st (total ws) ≤ last_sum h p → passed h p st ws ≡ length ws
  unfolding passed total
  later_sums st [] so l = refl
  later_sums st (v ∷ ws) so l =
      let first : arrived h st v ≤ last_sum h p = omega (arith, arrived_rise h st v (v + total ws) (omega arith)) in
      passes_cons h p st v ws
      (record {
        first = first;
        others = later_sums (next h p st v) ws (settled_ok ok (arrived h st v) first) (omega (arith, next_sum st v (total ws) first));
      })

-- the rows before row `from` pass and lead to the state `last`
pub record Dried (h : ℕ) (p : List ℕ) (st : State) (vs : List ℕ) (last : State) (from : ℕ) : Type 0 where
  pub so_far : from ≤ passed h p st vs
  pub reached : last ≡ end_of h p st (take from vs)

module _ (h : ℕ) (p : List ℕ) (st : State) (vs : List ℕ) where
  -- nothing was run yet
  pub dried_start : Dried h p st vs st 0
  unfolding end_of
  dried_start = record { so_far = omega arith; reached = refl }

  module _ (last : State) (from : ℕ) (d : Dried h p st vs last from) where
    within : from ≤ length vs
    within = omega (arith, d.so_far, passed_most h p st vs)

    -- the rows that pass are those and the ones that pass of what is left
    pub dried_passed : passed h p st vs ≡ from + passed h p last (drop from vs)
    dried_passed =
        let count = length-take-le from vs within in
        let all = passed_append h p st (take from vs) (drop from vs) (passed_part h p st from vs d.so_far) in
        omega (
          arith,
          ap (passed h p st) (take-append-drop from vs),
          all,
          count,
          ap (λ (z : State). passed h p z (drop from vs)) d.reached,
        )

    -- its state is a good one
    pub dried_ok : PondOk h p → StateOk h p st → StateOk h p last
    dried_ok ok so = rw d.reached (reach_ok ok st from vs so d.so_far)

    module _ (n : ℕ) (l : from + n ≤ length vs) where
      abbrev block : List ℕ
      block = take n (drop from vs)

      long : length block ≡ n
      long = length-take-le n (drop from vs) (omega (arith, length-drop from vs))

      -- what is left is the block and the rows after it
      left : block ++ drop n (drop from vs) ≡ drop from vs
      left = take-append-drop n (drop from vs)

      -- a block that goes over nowhere
      pub dried_turn : (dry_of h p last block).over ≡ None → Dried h p st vs (dry_of h p last block).last (from + n)
      unfolding dry_of
      dried_turn e =
          let all = over_none h p last block e in
          let more = passed_append h p last block (drop n (drop from vs)) all in
          let ends = take_all (passed h p last block) block (omega (arith, all)) in
          record {
            so_far = omega (arith, dried_passed, more, long, ap (passed h p last) left);
            reached = rw (ends, take-add from n vs, end_append h p st (take from vs) block, d.reached);
          }

      -- a block that goes over
      pub dried_over : {k : ℕ} → (dry_of h p last block).over ≡ Some k → over_row h p st vs ≡ Some (from + k)
      unfolding dry_of over_row
      dried_over {k} e =
          let found = over_some h p last block e in
          let short : passed h p last block < length block = omega (arith, found.0, found.1) in
          let same = passed_short h p last block (drop n (drop from vs)) short in
          let sum : passed h p st vs ≡ from + k = omega (arith, dried_passed, same, ap (passed h p last) left, found.0) in
          rw (lt-ltb (passed h p st vs) (length vs) (omega (arith, sum, found.1, long))) (ap Some sum)

    -- no row is left
    pub dried_end : length vs ≤ from → over_row h p st vs ≡ None
    dried_end l = none_over h p st vs (omega (arith, d.so_far, passed_most h p st vs))

    -- what still comes is at most `come`, and with all of it at once no row goes over
    pub dried_safe : PondOk h p → StateOk h p st → (come : ℕ) → total (drop from vs) ≤ come → arrived h last come ≤ last_sum h p → over_row h p st vs ≡ None
    dried_safe ok so come least l =
        let all = later_sums ok last (drop from vs) (dried_ok ok so) (omega (arith, arrived_rise h last (total (drop from vs)) come least)) in
        none_over h p st vs (omega (arith, dried_passed, all, length-drop from vs, within))
