-- For a search for refusal 14 block by block: the rows that were run dry, with what can still come. Assumes nothing.
use mathlib.Core.Path.{◌≡◌, sym, ap, ◌∙◌}
use mathlib.Core.List.{List}
use Prim.Native.Nat.{ℕ, ◌+◌, ◌-◌, ◌≤◌, ◌<◌}
use native.Mathlib.Omega.{arith}
use Rattle.std.specs.Prelude.{Option, None, Some}
use lib.ListN.{length, take, drop}
use lib.Seq.{drop-drop}
use Rattle.pond.specs.PondRows.{last_sum, arrived}
use Rattle.pond.specs.Needs.{StateOk, ArriveOk}
use Rattle.pond.specs.declared.Pond.{Pond}
use Rattle.pond.specs.declared.State.{State}
use Rattle.pond.proofs.Steps.{arrive_ok}
use Rattle.rows.specs.Routing.{over_row, total}
use Rattle.rows.specs.Needs.{tide_of}
use Rattle.rows.specs.declared.Level.{Level}
use Rattle.rows.specs.declared.Tide.{Tide}
use Rattle.rows.proofs.Totals.{total_split}
use Rattle.rows.proofs.Told.{over_some}
use Rattle.rows.proofs.Dried.{Dried, dried_start, dried_ok, dried_turn, dried_over, dried_end, dried_safe}

-- the half step and the table of a level's pond
abbrev half : Level → ℕ
half v = v.pond.half

abbrev numbers : Level → List ℕ
numbers v = v.pond.table.numbers.now

-- the first row that goes over of rows ws from a level on
abbrev pub over_at : Level → List ℕ → Option ℕ
over_at v ws = over_row (half v) (numbers v) v.state ws

-- from a level on the rows before row i pass and lead to the state `last`, and the rows from i on bring at most `come`
pub record Coming (v : Level) (ws : List ℕ) (last : State) (come i : ℕ) : Type 0 where
  pub so_far : i ≤ length ws
  pub dried : Dried (half v) (numbers v) v.state ws last i
  pub least : total (drop i ws) ≤ come
  pub most : come ≤ 1000000000000000000

module _ (v : Level) (ws : List ℕ) where
  -- no row was run yet
  pub coming_start : (all : ℕ) → all ≤ 1000000000000000000 → total ws ≤ all → Coming v ws v.state all 0
  coming_start all most least = record { so_far = omega arith; dried = dried_start (half v) (numbers v) v.state ws; least = least; most = most }

  module _ {last : State} {come i : ℕ} (so : Coming v ws last come i) where
    -- its state is a good one
    pub coming_ok : StateOk (half v) (numbers v) last
    coming_ok = dried_ok (half v) (numbers v) v.state ws last i so.dried v.pond.sound v.sound

    -- all that can still come may arrive at once
    pub coming_arrive : ArriveOk (half v) last come
    coming_arrive = arrive_ok v.pond.sound coming_ok so.most

    -- and where it does no harm no row goes over
    pub coming_safe : arrived (half v) last come ≤ last_sum (half v) (numbers v) → over_at v ws ≡ None
    coming_safe l = dried_safe (half v) (numbers v) v.state ws last i so.dried v.pond.sound v.sound come so.least l

    -- no row is left
    pub coming_end : length ws ≤ i → over_at v ws ≡ None
    coming_end l = dried_end (half v) (numbers v) v.state ws last i so.dried l

    -- the n rows before row e, run dry
    module _ (n e : ℕ) (to : i + n ≡ e) (hi : e ≤ length ws) {tide : Tide} (is : tide ≡ tide_of (half v) (numbers v) last (take n (drop i ws))) where
      room : i + n ≤ length ws
      room = omega arith

      -- what comes after them is that without their own
      left : total (drop i ws) ≡ tide.inflow + total (drop e ws)
      left = omega (arith, total_split n (drop i ws), ap total (drop-drop n i ws), ap (λ (z : ℕ). total (drop z ws)) to, ap (λ (t : Tide). t.inflow) is)

      -- they bring no more than can come
      pub coming_less : tide.inflow ≤ come
      coming_less = omega (arith, left, so.least)

      -- one goes over: it is one of the rows
      pub coming_over : {k : ℕ} → tide.over ≡ Some k → over_at v ws ≡ Some (i + k)
      coming_over e = dried_over (half v) (numbers v) v.state ws last i so.dried n room (sym (ap (λ (t : Tide). t.over) is) ∙ e)

      pub coming_row : {k : ℕ} → tide.over ≡ Some k → i + k < length ws
      coming_row e = (over_some (half v) (numbers v) v.state ws (coming_over e)).1

      -- none does
      pub coming_turn : tide.over ≡ None → Coming v ws tide.last (come - tide.inflow) e
      coming_turn z =
          let more = dried_turn (half v) (numbers v) v.state ws last i so.dried n room (sym (ap (λ (t : Tide). t.over) is) ∙ z) in
          record {
            so_far = hi;
            dried = rw (ap (λ (t : Tide). t.last) is) (rw to at more);
            least = omega (arith, left, so.least);
            most = omega (arith, so.most);
          }

-- a block run dry from a level of the same pond
pub tide_from : (new : Level) {pond : Pond} {last : State} {tide : Tide} {rows block : List ℕ} → new.pond ≡ pond → new.state ≡ last → rows ≡ block
    → tide ≡ tide_of new.pond.half new.pond.table.numbers.now new.state rows → tide ≡ tide_of pond.half pond.table.numbers.now last block
tide_from new p s r is = is ∙ (λ j. tide_of (p j).half (p j).table.numbers.now (s j) (r j))
