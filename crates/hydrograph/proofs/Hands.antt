-- The loops that a pen goes through: a hand of weights, and the sum of all. Assumes nothing.
use mathlib.Core.Path.{◌≡◌, refl, sym, ap, ◌∙◌}
use mathlib.Core.Logic.{⊎_elim}
use mathlib.Core.List.{List}
use Prim.Native.Nat.{ℕ, ◌+◌, ◌*◌, ◌≤◌, ◌<◌, min}
use native.Mathlib.Omega.{arith}
use borrow.Author.Tests.{lt-ltb, le-ltb}
use lib.ListN.{length, get_or, set, length-set}
use lib.Seq.{ext_get_or}
use Rattle.laws.specs.Sum.{sum_to}
use Rattle.laws.specs.Listed.{rows_from}
use Rattle.laws.specs.Filled.{Filled}
use Rattle.laws.proofs.Num.{below_or_not}
use Rattle.laws.proofs.Sums.{sum_same, sum_most, sum_zeros, sum_split}
use Rattle.laws.proofs.Fill.{filled_more}
use Rattle.laws.proofs.Listed.{rows_length, rows_at}
use Rattle.hydrograph.specs.InflowRows.{line_at, weight_at, weights, total_weight}
use Rattle.hydrograph.specs.Needs.{TimingOk, PenOk, PenReady, hand, weighed, Below}
use Rattle.hydrograph.specs.declared.Pen.{Pen}
use Rattle.hydrograph.proofs.Lines.{line_next}
use Rattle.hydrograph.proofs.Weights.{in_time, weight_most}
use Rattle.hydrograph.proofs.Pens.{pen_ready, pen_weight, pen_most}

-- The invariant of a hand's loop, after i weights: they stand in the list, and the pen is at the last that there is of them, on
-- its line once there is one
pub record Filling (Tp D done : ℕ) (list : List ℕ) (pen : Pen) (i : ℕ) : Type 0 where
  pub at : i ≤ hand
  pub long : length list ≡ hand
  pub here : pen.time ≡ 10 * (min (done + i) (weights Tp D) * D)
  pub ready : PenReady Tp D pen
  pub line : 0 < i → pen.line ≡ line_at Tp pen.time
  pub filled : Filled (λ k. weighed Tp D (done + k)) i list

-- what a turn puts next, and where the pen is then
pub record Next (Tp D done : ℕ) (pen : Pen) (i next : ℕ) : Type 0 where
  pub here : pen.time ≡ 10 * (min (done + (i + 1)) (weights Tp D) * D)
  pub ready : PenReady Tp D pen
  pub line : pen.line ≡ line_at Tp pen.time
  pub small : next ≤ 1000000
  pub is : next ≡ weighed Tp D (done + i)

module _ (Tp D done : ℕ) (timing : TimingOk D Tp) where
  -- a pen at weight g + 1 gives what stands at place g
  pen_weighed : (g : ℕ) (pen : Pen) → PenOk Tp D pen → g < weights Tp D → pen.time ≡ 10 * ((g + 1) * D) → pen.weight ≡ weighed Tp D g
  unfolding weighed
  pen_weighed g pen ok l e = rw (lt-ltb g (weights Tp D) l) (pen_weight Tp D pen ok (g + 1) e)

  module _ {list : List ℕ} {pen : Pen} {i : ℕ} (so : Filling Tp D done list pen i) where
    -- where another weight comes, the pen is at the one before it
    pub before_next : done + i < weights Tp D → pen.time ≡ 10 * ((done + i) * D)
    before_next l = let last : min (done + i) (weights Tp D) ≡ done + i = omega arith in rw last at so.here

    -- the pen a step on gives it
    pub next_weight : done + i < weights Tp D → (new : Pen) → new.time ≡ pen.time + 10 * D → PenOk Tp D new → Next Tp D done new i new.weight
    next_weight l new e ok =
        let last : min (done + (i + 1)) (weights Tp D) ≡ done + (i + 1) = omega arith in
        record {
          here = rw last (omega (arith, before_next l));
          ready = pen_ready Tp D new ok;
          line = ok.at_line;
          small = pen_most Tp D new ok timing;
          is = pen_weighed (done + i) new ok l (omega (arith, before_next l));
        }

    -- past the last weight the pen stays, and 0 comes
    pub next_none : done < weights Tp D → weights Tp D ≤ done + i → Next Tp D done pen i 0
    unfolding weighed
    next_none some l =
        let last : min (done + i) (weights Tp D) ≡ min (done + (i + 1)) (weights Tp D) = omega arith in
        record {
          here = rw last at so.here;
          ready = so.ready;
          line = so.line (omega arith);
          small = omega arith;
          is = rw (le-ltb (done + i) (weights Tp D) l);
        }

    -- one weight more
    pub filling_turn : {new : Pen} {next : ℕ} → i < hand → Next Tp D done new i next → Filling Tp D done (set list i next) new (i + 1)
    filling_turn {new} {next} l n =
        record {
          at = omega arith;
          long = simp length-set so.long;
          here = n.here;
          ready = n.ready;
          line = λ k. n.line;
          filled = filled_more (λ k. weighed Tp D (done + k)) i list next (omega (arith, so.long)) so.filled n.is;
        }

  -- where the loop ends: the pen's line, and the whole hand
  module _ {list : List ℕ} {pen : Pen} (so : Filling Tp D done list pen hand) where
    pub filling_line : pen.line ≡ line_at Tp (10 * (min (done + hand) (weights Tp D) * D))
    filling_line = so.line (omega arith) ∙ ap (line_at Tp) so.here

    pub filling_end : list ≡ rows_from (weighed Tp D) done hand
    filling_end =
        ext_get_or 0 list (rows_from (weighed Tp D) done hand) (so.long ∙ sym (rows_length (weighed Tp D) done hand))
        (λ k l. each k (omega (arith, so.long)))
      where
        each : (k : ℕ) → k < hand → get_or list k 0 ≡ get_or (rows_from (weighed Tp D) done hand) k 0
        each k l = so.filled.each k l ∙ sym (rows_at (weighed Tp D) done hand k l)

-- past the last weight there is none
pub weighed_past : (Tp D g : ℕ) → weights Tp D ≤ g → weighed Tp D g ≡ 0
unfolding weighed
weighed_past Tp D g l = rw (le-ltb g (weights Tp D) l)

-- any other is the shape's own
pub weighed_own : (Tp D g : ℕ) → g < weights Tp D → weighed Tp D g ≡ weight_at Tp D g
unfolding weighed
weighed_own Tp D g l = rw (lt-ltb g (weights Tp D) l)

-- none is above 1,000,000
pub weighed_most : (D Tp : ℕ) → TimingOk D Tp → (g : ℕ) → weighed Tp D g ≤ 1000000
weighed_most D Tp timing g =
    ⊎_elim (λ l. rw (weighed_own Tp D g l) (weight_most D Tp timing (g + 1) (in_time D Tp timing (g + 1) (omega arith)))) (λ l. rw (weighed_past Tp D g l) (omega arith)) (below_or_not g (weights Tp D))

-- so none of a hand
pub hand_below : (D Tp : ℕ) → TimingOk D Tp → (done : ℕ) (w : List ℕ) → w ≡ rows_from (weighed Tp D) done hand → Below w hand 1000000
hand_below D Tp ok done w e = record { each = λ i l. rw (e, rows_at (weighed Tp D) done hand i l) (weighed_most D Tp ok (done + i)) }

-- and their sum is small
pub hand_few : (D Tp : ℕ) → TimingOk D Tp → (done : ℕ) (w : List ℕ) → w ≡ rows_from (weighed Tp D) done hand → sum_to (λ i. get_or w i 0) hand ≤ 8000000
hand_few D Tp ok done w e = sum_most (λ i. get_or w i 0) 1000000 hand (hand_below D Tp ok done w e).each

-- The invariant of the loop that sums all weights, after `done`: the next weight's line is not passed
pub record Totalling (Tp D : ℕ) (list : List ℕ) (line total done : ℕ) : Type 0 where
  pub at : done ≤ weights Tp D + 7
  pub long : length list ≡ hand
  pub next : line ≤ line_at Tp (10 * ((done + 1) * D))
  pub sum : total ≡ sum_to (weighed Tp D) done

module _ (Tp D : ℕ) (timing : TimingOk D Tp) where
  -- where the loop begins: none is summed
  pub totalling_start : (list : List ℕ) → length list ≡ hand → Totalling Tp D list 0 0 0
  unfolding sum_to
  totalling_start list long = record { at = omega arith; long = long; next = omega arith; sum = refl }

  module _ {list : List ℕ} {line total done : ℕ} (so : Totalling Tp D list line total done) where
    -- the sum so far
    pub total_most : total ≤ done * 1000000
    total_most = rw so.sum (sum_most (weighed Tp D) 1000000 done (λ g l. weighed_most D Tp timing g))

    -- one hand more
    pub totalling_turn : (new : List ℕ) (last own : ℕ) → done < weights Tp D → new ≡ rows_from (weighed Tp D) done hand
        → last ≡ line_at Tp (10 * (min (done + hand) (weights Tp D) * D)) → own ≡ sum_to (λ i. get_or new i 0) hand
        → Totalling Tp D new last (total + own) (done + hand)
    totalling_turn new last own l e on is =
        record {
          at = omega arith;
          long = ap length e ∙ rows_length (weighed Tp D) done hand;
          next = rw on (line_next Tp D done);
          sum = rw (so.sum, is) (ap (λ (z : ℕ). sum_to (weighed Tp D) done + z) (sum_same (λ i. get_or new i 0) (λ i. weighed Tp D (done + i)) hand (λ i k. rw e (rows_at (weighed Tp D) done hand i k))) ∙ sym (sum_split (weighed Tp D) done hand));
        }

    -- where the loop ends
    pub totalling_end : weights Tp D ≤ done → total ≡ total_weight Tp D
    unfolding total_weight
    totalling_end l =
        so.sum ∙ sum_zeros (weighed Tp D) (weights Tp D) done l (λ g a b. weighed_past Tp D g a)
        ∙ sum_same (weighed Tp D) (weight_at Tp D) (weights Tp D) (λ g k. weighed_own Tp D g k)
