-- Laws of lists of rows: how long they are, what stands where, and rows to which something is added. Assumes nothing.
use mathlib.Core.Path.{◌≡◌, refl, sym, ap, ◌∙◌}
use mathlib.Core.Logic.{◌⊎◌, inl, inr}
use mathlib.Core.List.{List, [], ◌∷◌, ◌++◌}
use Prim.Native.Nat.{ℕ, zero, suc, ◌+◌, ◌-◌, ◌≤◌, ◌<◌}
use native.Mathlib.Nat.{add-zero, le_of_suc-le-suc}
use native.Mathlib.Omega.{arith}
use borrow.Author.Tests.{eq-eqb, ne_eqb}
use lib.Dec.{eqb}
use lib.ListN.{length, get_or, take, drop, set, replicate, length-set, length-drop}
use lib.Seq.{ext_get_or, get_or-take, get_or-drop, length-take-le, drop-drop, drop-set-lt, get_or-set_same, get_or-set_other}
use Rattle.laws.specs.Pick.{pick}
use Rattle.laws.specs.Sum.{sum_to}
use Rattle.laws.specs.Listed.{rows_from, plus}
use Rattle.laws.proofs.Num.{equal_or_not}
use Rattle.laws.proofs.Sums.{sum_more}
use Rattle.laws.proofs.Fill.{drop_one, drop_none, fill_turn, fill_end}

-- as many as asked
pub rows_length : (f : ℕ → ℕ) (k n : ℕ) → length (rows_from f k n) ≡ n
unfolding rows_from
rows_length f k zero = refl
rows_length f k (suc n) = ap suc (rows_length f (k + 1) n)

-- each where it belongs
pub rows_at : (f : ℕ → ℕ) (k n i : ℕ) → i < n → get_or (rows_from f k n) i 0 ≡ f (k + i)
unfolding rows_from
rows_at f k zero i l = absurd (omega arith)
rows_at f k (suc n) zero l = let e : k ≡ k + 0 = omega arith in ap f e
rows_at f k (suc n) (suc i) l = let e : k + 1 + i ≡ k + suc i = omega arith in rows_at f (k + 1) n i (le_of_suc-le-suc l) ∙ ap f e

-- of functions that agree
pub rows_same : (f g : ℕ → ℕ) (k n : ℕ) → ((j : ℕ) → f j ≡ g j) → rows_from f k n ≡ rows_from g k n
unfolding rows_from
rows_same f g k zero h = refl
rows_same f g k (suc n) h = rw (h k, rows_same f g (k + 1) n h)

-- a list that has a function's values one by one is its rows
pub rows_are : (f : ℕ → ℕ) (k n : ℕ) (l : List ℕ) → length l ≡ n → ((i : ℕ) → i < n → get_or l i 0 ≡ f (k + i)) → l ≡ rows_from f k n
rows_are f k n l long each =
    ext_get_or 0 l (rows_from f k n) (long ∙ sym (rows_length f k n)) (λ i h. each i (omega arith) ∙ sym (rows_at f k n i (omega arith)))

-- a part of the rows
pub rows_part : (f : ℕ → ℕ) (m from n : ℕ) → from + n ≤ m → take n (drop from (rows_from f 1 m)) ≡ rows_from f (from + 1) n
rows_part f m from n l =
    rows_are f (from + 1) n (take n (drop from (rows_from f 1 m))) (length-take-le n (drop from (rows_from f 1 m)) (omega (arith, length-drop from (rows_from f 1 m), rows_length f 1 m)))
    (λ i h. let e : 1 + (from + i) ≡ from + 1 + i = omega arith in get_or-take n (drop from (rows_from f 1 m)) i 0 h ∙ get_or-drop from (rows_from f 1 m) i 0 ∙ rows_at f 1 m (from + i) (omega arith) ∙ ap f e)

-- of functions that agree on these rows
pub rows_agree : (f g : ℕ → ℕ) (k n : ℕ) → ((i : ℕ) → i < n → f (k + i) ≡ g (k + i)) → rows_from f k n ≡ rows_from g k n
rows_agree f g k n h = rows_are g k n (rows_from f k n) (rows_length f k n) (λ i l. rows_at f k n i l ∙ h i l)

-- rows of zeros: the first of those left, and none left
pub zeros_one : (n i : ℕ) → i < n → rows_from (λ (j : ℕ). 0) (1 + i) (n - i) ≡ 0 ∷ rows_from (λ (j : ℕ). 0) (1 + (i + 1)) (n - (i + 1))
unfolding rows_from
zeros_one n i l =
    let e : n - i ≡ suc (n - (i + 1)) = omega arith in
    let d : 1 + i + 1 ≡ 1 + (i + 1) = omega arith in
    rw e (ap (λ (k : ℕ). 0 ∷ rows_from (λ (j : ℕ). 0) k (n - (i + 1))) d)

pub zeros_none : (k n i : ℕ) → n ≤ i → rows_from (λ (j : ℕ). 0) k (n - i) ≡ []
unfolding rows_from
zeros_none k n i l = let e : n - i ≡ 0 = omega arith in rw e

-- a list that is filled with zeros is rows of zeros
pub zeros_all : (k n : ℕ) → replicate n 0 ≡ rows_from (λ (j : ℕ). 0) k n
unfolding rows_from
zeros_all k zero = refl
zeros_all k (suc n) = ap (λ (l : List ℕ). 0 ∷ l) (zeros_all (k + 1) n)

-- what is added leaves as many rows
pub plus_length : (f : ℕ → ℕ) (k : ℕ) (vs : List ℕ) → length (plus f k vs) ≡ length vs
unfolding plus
plus_length f k [] = refl
plus_length f k (v ∷ vs) = ap suc (plus_length f (k + 1) vs)

-- each with its own
pub plus_at : (f : ℕ → ℕ) (k : ℕ) (vs : List ℕ) (i : ℕ) → i < length vs → get_or (plus f k vs) i 0 ≡ get_or vs i 0 + f (k + i)
unfolding plus
plus_at f k [] i l = absurd (omega arith)
plus_at f k (v ∷ vs) zero l = let e : k ≡ k + 0 = omega arith in ap (λ (z : ℕ). v + f z) e
plus_at f k (v ∷ vs) (suc i) l =
    let e : k + 1 + i ≡ k + suc i = omega arith in
    plus_at f (k + 1) vs i (le_of_suc-le-suc l) ∙ ap (λ (z : ℕ). get_or vs i 0 + f z) e

-- one function more added to each row
pub plus_rows : (f g : ℕ → ℕ) (k n : ℕ) → plus f k (rows_from g k n) ≡ rows_from (λ j. g j + f j) k n
unfolding rows_from plus
plus_rows f g k zero = refl
plus_rows f g k (suc n) = ap (λ (l : List ℕ). (g k + f k) ∷ l) (plus_rows f g (k + 1) n)

-- rows of zeros with a function added are its rows
pub plus_zeros : (f : ℕ → ℕ) (n : ℕ) → plus f 1 (rows_from (λ (k : ℕ). 0) 1 n) ≡ rows_from f 1 n
plus_zeros f n = plus_rows f (λ (k : ℕ). 0) 1 n ∙ rows_same (λ k. 0 + f k) f 1 n (λ k. omega arith)

-- rows to which the first i of some functions were added: none of them, and one more
module _ (p : ℕ → ℕ → ℕ) where
  pub added_none : (m : ℕ) → rows_from (λ k. sum_to (λ j. p j k) 0) 1 m ≡ rows_from (λ (k : ℕ). 0) 1 m
  unfolding sum_to
  added_none m = refl

  pub added_more : (i m : ℕ) → plus (p i) 1 (rows_from (λ k. sum_to (λ j. p j k) i) 1 m) ≡ rows_from (λ k. sum_to (λ j. p j k) (i + 1)) 1 m
  added_more i m =
      plus_rows (p i) (λ k. sum_to (λ j. p j k) i) 1 m
      ∙ rows_same (λ k. sum_to (λ j. p j k) i + p i k) (λ k. sum_to (λ j. p j k) (i + 1)) 1 m (λ k. sym (sum_more (λ j. p j k) i))

-- The invariant of a loop that adds f to each row, before row i (from 0): the rows written so far and those still due are all of them
pub record Adding (f : ℕ → ℕ) (first rows : List ℕ) (i : ℕ) : Type 0 where
  pub at : i ≤ length first
  pub long : length rows ≡ length first
  pub written : take i rows ++ plus f (i + 1) (drop i first) ≡ plus f 1 first
  pub due : drop i rows ≡ drop i first

module _ (f : ℕ → ℕ) (first : List ℕ) where
  -- where the loop begins
  pub adding_start : Adding f first first 0
  adding_start = record { at = omega arith; long = refl; written = refl; due = refl }

  module _ {rows : List ℕ} {i : ℕ} (so : Adding f first rows i) where
    -- a row that is due is as it was
    pub row_due : get_or rows i 0 ≡ get_or first i 0
    row_due = sym (at_front rows) ∙ ap (λ (l : List ℕ). get_or l 0 0) so.due ∙ at_front first
      where
        at_front : (l : List ℕ) → get_or (drop i l) 0 0 ≡ get_or l i 0
        at_front l = get_or-drop i l 0 0 ∙ ap (λ (z : ℕ). get_or l z 0) (add-zero i)

    -- one row more
    pub adding_turn : {v : ℕ} → i < length first → v ≡ get_or first i 0 + f (i + 1) → Adding f first (set rows i v) (i + 1)
    unfolding plus
    adding_turn {v} l e =
        record {
          at = omega arith;
          long = simp length-set so.long;
          written = fill_turn rows i _ _ _ (omega (arith, so.long)) (ap (λ (z : ℕ). take i rows ++ (z ∷ plus f (i + 1 + 1) (drop (i + 1) first))) e ∙ (rw (drop_one 0 first i l) at so.written));
          due = drop-set-lt (i + 1) rows i _ (omega arith) ∙ sym (drop-drop 1 i rows) ∙ ap (drop 1) so.due ∙ drop-drop 1 i first;
        }

    -- the rows are written when none is due
    pub adding_end : length first ≤ i → rows ≡ plus f 1 first
    unfolding plus
    adding_end l = fill_end rows i (plus f 1 first) (omega (arith, so.long)) (rw (drop_none first i l) at so.written)

-- functions that agree on the rows, added
pub plus_same : (f g : ℕ → ℕ) (vs : List ℕ) → ((i : ℕ) → i < length vs → f (1 + i) ≡ g (1 + i)) → plus f 1 vs ≡ plus g 1 vs
plus_same f g vs h =
    ext_get_or 0 (plus f 1 vs) (plus g 1 vs) (plus_length f 1 vs ∙ sym (plus_length g 1 vs))
    (λ i l. each i (omega (arith, plus_length f 1 vs)))
  where
    each : (i : ℕ) → i < length vs → get_or (plus f 1 vs) i 0 ≡ get_or (plus g 1 vs) i 0
    each i l = plus_at f 1 vs i l ∙ ap (λ (z : ℕ). get_or vs i 0 + z) (h i l) ∙ sym (plus_at g 1 vs i l)

-- nothing added
pub plus_none : (f : ℕ → ℕ) (vs : List ℕ) → ((i : ℕ) → i < length vs → f (1 + i) ≡ 0) → vs ≡ plus f 1 vs
plus_none f vs h =
    ext_get_or 0 vs (plus f 1 vs) (sym (plus_length f 1 vs)) (λ i l. rw (plus_at f 1 vs i l, h i l) (omega arith))

-- two functions added, one after the other
pub plus_plus : (f g : ℕ → ℕ) (k : ℕ) (vs : List ℕ) → plus g k (plus f k vs) ≡ plus (λ j. f j + g j) k vs
unfolding plus
plus_plus f g k [] = refl
plus_plus f g k (v ∷ vs) = let e : v + f k + g k ≡ v + (f k + g k) = omega arith in rw (e, plus_plus f g (k + 1) vs)

-- a number added to one row and 0 to every other
module _ (row v : ℕ) (rows : List ℕ) where
  abbrev there : ℕ → ℕ
  there k = pick (eqb row k) v 0

  pub plus_here : 1 ≤ row → row ≤ length rows → set rows (row - 1) (get_or rows (row - 1) 0 + v) ≡ plus there 1 rows
  plus_here some l =
      ext_get_or 0 (set rows (row - 1) (get_or rows (row - 1) 0 + v)) (plus there 1 rows) (simp length-set (sym (plus_length there 1 rows)))
      (λ i h. each i (simp length-set at h) (equal_or_not i (row - 1)))
    where
      each : (i : ℕ) → i < length rows → (i ≡ row - 1) ⊎ (i ≡ row - 1 → ⊥) → get_or (set rows (row - 1) (get_or rows (row - 1) 0 + v)) i 0 ≡ get_or (plus there 1 rows) i 0
      each i h (inl e) = rw (e, get_or-set_same rows (row - 1) (get_or rows (row - 1) 0 + v) 0 (omega arith), plus_at there 1 rows (row - 1) (omega arith), eq-eqb row (1 + (row - 1)) (omega arith))
      each i h (inr e) = rw (get_or-set_other rows (row - 1) i (get_or rows (row - 1) 0 + v) 0 e, plus_at there 1 rows i h, ne_eqb row (1 + i) (λ q. e (omega arith))) (omega arith)

  pub plus_past : length rows < row → rows ≡ plus there 1 rows
  plus_past l = plus_none there rows (λ i h. rw (ne_eqb row (1 + i) (λ q. omega arith)))
