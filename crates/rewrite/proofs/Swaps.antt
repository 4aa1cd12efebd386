-- The rows from a row on: their new inflow, and what they keep of what the rows have. Assumes nothing.
use mathlib.Core.Path.{◌≡◌, sym, ap, ◌∙◌}
use mathlib.Core.List.{List}
use Prim.Native.Nat.{ℕ, ◌+◌, ◌-◌, ◌≤◌}
use native.Mathlib.Omega.{arith}
use lib.ListN.{length, drop, length-drop}
use Rattle.laws.proofs.Fill.{tail_part}
use Rattle.rows.proofs.Columns.{inflow_tail}
use Rattle.sums.specs.declared.Numbers.{Numbers}
use Rattle.parts.specs.Needs.{part_by}
use Rattle.checks.specs.Site.{Rows}
use Rattle.alter.specs.Altering.{swapped}
use Rattle.alter.specs.Needs.{PartsFit}
use Rattle.alter.proofs.Swapping.{swapped_length}
use Rattle.fitting.specs.Needs.{new_after, TailFit}
use Rattle.fitting.proofs.Swaps.{swapped_drop, part_parts}
use Rattle.rewrite.specs.Needs.{new_by, SwapFit}

-- the rows from row a on leave their parts to be taken away
parts_tail : (f : ℕ → ℕ) (a : ℕ) (vs : List ℕ) → PartsFit f 0 vs → a ≤ length vs → PartsFit f a (drop a vs)
parts_tail f a vs ok most =
    let e : 0 + a ≡ a = omega arith in
    rw (e, tail_part vs a) at (part_parts vs a (length vs - a) f 0 ok most)

module _ (D : ℕ) (rain p : List ℕ) (old own : Numbers) where
  abbrev f : ℕ → ℕ
  f = part_by D rain old

  abbrev g : ℕ → ℕ
  g = part_by D rain own

  -- as many new inflow rows as there were
  pub new_long : (vs : List ℕ) → length (new_by D rain old own vs) ≡ length vs
  new_long vs = swapped_length f g 1 vs

  -- the new inflow of the rows from row a on
  pub tail_new : (a : ℕ) (vs : List ℕ) → new_after D rain old own a (drop a vs) ≡ drop a (new_by D rain old own vs)
  tail_new a vs = let e : a + 1 ≡ 1 + a = omega arith in ap (λ (z : ℕ). swapped f g z (drop a vs)) e ∙ sym (swapped_drop f g a 1 vs)

  -- rows that fit still do from row a on
  pub tail_fit : (a : ℕ) (l : Rows) → SwapFit D rain p old own l → a ≤ length l.inflow → TailFit D rain p old own a (drop a l.inflow)
  tail_fit a l fit most =
      record {
        pond = fit.pond;
        raining = fit.raining;
        was = fit.was;
        is = fit.is;
        parted = parts_tail f a l.inflow fit.parted most;
        new = rw (tail_new a l.inflow) (inflow_tail (new_by D rain old own l.inflow) a fit.new);
        few = omega (arith, length-drop a l.inflow, fit.rows.few, fit.out_long);
      }
