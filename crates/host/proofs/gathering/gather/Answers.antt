-- `host::gathering::gather` meets its contract. Assumes nothing.
use Rattle.std.proofs.Common.{◌≡◌, ◌+◌, ℕ, List, sym, ap, ◌∙◌, length, arith}
use native.Mathlib.Numerals.{add-one}
use Rattle.host.specs.Gathered.{capped, no_record, put_at, fill_to, gathered}
use Rattle.host.specs.declared.records.Subarea.{Subarea}
use Rattle.host.specs.declared.gathering.Flat.{Flat}
use lib.ListN.{get_or}
use Rattle.host.proofs.gathering.gather.Goals as goal

-- one record more
fill_next : (i : ℕ) (ys : List Subarea) → put_at (fill_to i ys) i (get_or ys i no_record) ≡ fill_to (i + 1) ys
unfolding fill_to
fill_next i ys = ap (λ (n : ℕ). fill_to n ys) (sym (add-one i))

fill_all : (i : ℕ) (ys : List Subarea) → i ≡ capped (length ys) → fill_to i ys ≡ gathered ys
unfolding gathered
fill_all i ys e = ap (λ (n : ℕ). fill_to n ys) e

pub loop-i-init : goal.loop-i-init
unfolding fill_to
loop-i-init c = c.zeros-flat.ensures

pub loop-i-preserved : goal.loop-i-preserved
loop-i-preserved c =
    c.put-flat.ensures ∙ ap (λ (z : Flat). put_at z c.loop-i.i (get_or c.args.list.now c.loop-i.i no_record)) c.loop-i.invariant ∙ fill_next c.loop-i.i c.args.list.now

pub returns : goal.returns
returns c = c.loop-i.invariant ∙ fill_all c.loop-i.i c.args.list.now (omega (arith, c.at_most-i-end.ensures))
