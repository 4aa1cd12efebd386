-- Rows to which something is added part by part, from any first row on. Assumes nothing.
use mathlib.Core.Path.{◌≡◌, refl, sym, ap, ◌∙◌, subst}
use mathlib.Core.List.{List, [], ◌∷◌, ◌++◌, append_assoc}
use Prim.Native.Nat.{ℕ, suc, ◌+◌, ◌-◌, ◌≤◌, ◌<◌}
use native.Mathlib.Omega.{arith}
use borrow.Rule.Slice.PartMut.{mid_of, put_mid, mid_len}
use lib.ListN.{length, get_or, take, drop, take-append-drop, length-append, length-drop}
use lib.Seq.{ext_get_or, take_at, drop_at, drop-drop, take-add, length-take-le, get_or-take, get_or-drop}
use Rattle.laws.specs.Listed.{rows_from, plus}
use Rattle.laws.proofs.Listed.{rows_length, rows_at, plus_length, plus_at}
use Rattle.hydrograph.specs.Needs.{RoomOk}

-- lists of rows of functions that agree where they are asked
pub rows_alike : (f g : ℕ → ℕ) (j k n : ℕ) → ((i : ℕ) → i < n → f (j + i) ≡ g (k + i)) → rows_from f j n ≡ rows_from g k n
rows_alike f g j k n h =
    ext_get_or 0 (rows_from f j n) (rows_from g k n) (rows_length f j n ∙ sym (rows_length g k n))
    (λ i l. each i (omega (arith, rows_length f j n)))
  where
    each : (i : ℕ) → i < n → get_or (rows_from f j n) i 0 ≡ get_or (rows_from g k n) i 0
    each i l = rows_at f j n i l ∙ h i l ∙ sym (rows_at g k n i l)

-- functions that agree where they are asked, added
pub plus_alike : (f g : ℕ → ℕ) (j k : ℕ) (vs : List ℕ) → ((i : ℕ) → i < length vs → f (j + i) ≡ g (k + i)) → plus f j vs ≡ plus g k vs
plus_alike f g j k vs h =
    ext_get_or 0 (plus f j vs) (plus g k vs) (plus_length f j vs ∙ sym (plus_length g k vs))
    (λ i l. each i (omega (arith, plus_length f j vs)))
  where
    each : (i : ℕ) → i < length vs → get_or (plus f j vs) i 0 ≡ get_or (plus g k vs) i 0
    each i l = plus_at f j vs i l ∙ ap (λ (z : ℕ). get_or vs i 0 + z) (h i l) ∙ sym (plus_at g k vs i l)

-- nothing added
pub plus_nothing : (f : ℕ → ℕ) (k : ℕ) (vs : List ℕ) → ((i : ℕ) → i < length vs → f (k + i) ≡ 0) → vs ≡ plus f k vs
plus_nothing f k vs h =
    ext_get_or 0 vs (plus f k vs) (sym (plus_length f k vs)) (λ i l. rw (plus_at f k vs i l, h i l) (omega arith))

-- added to two lists that follow each other
pub plus_append : (f : ℕ → ℕ) (k : ℕ) (xs ys : List ℕ) → plus f k (xs ++ ys) ≡ plus f k xs ++ plus f (k + length xs) ys
unfolding plus
plus_append f k [] ys = let e : k ≡ k + 0 = omega arith in ap (λ (z : ℕ). plus f z ys) e
plus_append f k (x ∷ xs) ys =
    let e : k + 1 + length xs ≡ k + suc (length xs) = omega arith in
    ap (λ (l : List ℕ). (x + f k) ∷ l) (plus_append f (k + 1) xs ys ∙ ap (λ (z : ℕ). plus f (k + 1) xs ++ plus f z ys) e)

-- Rows of which the first i have their parts: f is added to them, row k first, and the others are as they were
pub record Parted (f : ℕ → ℕ) (k : ℕ) (first rows : List ℕ) (i : ℕ) : Type 0 where
  pub at : i ≤ length first
  pub written : rows ≡ plus f k (take i first) ++ drop i first

module _ (f : ℕ → ℕ) (k : ℕ) (first : List ℕ) where
  -- none has its part yet
  pub parted_start : Parted f k first first 0
  unfolding plus
  parted_start = record { at = omega arith; written = refl }

  -- the first d have none to get
  pub parted_skip : (d : ℕ) → d ≤ length first → ((j : ℕ) → j < d → f (k + j) ≡ 0) → Parted f k first first d
  parted_skip d l none =
      record {
        at = l;
        written = sym (take-append-drop d first) ∙ ap (λ (z : List ℕ). z ++ drop d first) (plus_nothing f k (take d first) (λ j h. none j (omega (arith, length-take-le d first l))));
      }

  -- the first d got theirs, lent as a front
  pub parted_front : (d : ℕ) (ys : List ℕ) → d ≤ length first → ys ≡ plus f k (take d first) → Parted f k first (ys ++ drop d first) d
  parted_front d ys l e = record { at = l; written = ap (λ (z : List ℕ). z ++ drop d first) e }

  module _ {rows : List ℕ} {i : ℕ} (so : Parted f k first rows i) where
    front_length : length (plus f k (take i first)) ≡ i
    front_length = plus_length f k (take i first) ∙ length-take-le i first so.at

    -- the front is written
    pub front_is : take i rows ≡ plus f k (take i first)
    front_is = ap (take i) so.written ∙ take_at (plus f k (take i first)) (drop i first) i front_length

    -- what is due is as it was
    pub due_is : drop i rows ≡ drop i first
    due_is = ap (drop i) so.written ∙ drop_at (plus f k (take i first)) (drop i first) i front_length

    pub parted_length : length rows ≡ length first
    parted_length = ap length so.written ∙ length-append (plus f k (take i first)) (drop i first) ∙ omega (arith, front_length, length-drop i first, so.at)

    -- a part of what is due is as it was, and has what it had
    pub mid_is : (e : ℕ) → mid_of i (e - i) rows ≡ mid_of i (e - i) first
    mid_is e = ap (take (e - i)) due_is

    pub mid_has : (P : List ℕ → Type 0) (e : ℕ) → P (mid_of i (e - i) first) → P (mid_of i (e - i) rows)
    mid_has P e p = subst P (sym (mid_is e)) p

    -- the rows up to e get their parts
    pub parted_turn : (e : ℕ) (ys : List ℕ) → i ≤ e → e ≤ length first → ys ≡ plus f (k + i) (mid_of i (e - i) rows) → Parted f k first (put_mid i (e - i) rows ys) e
    parted_turn e ys lo hi q =
        record {
          at = hi;
          written = rw (front_is, due_is, q, mid_is e, drop-drop (e - i) i first, whole) (sym (append_assoc (plus f k (take i first)) (plus f (k + i) (mid_of i (e - i) first)) (drop e first)) ∙ ap (λ (l : List ℕ). l ++ drop e first) (sym joined));
        }
      where
        whole : i + (e - i) ≡ e
        whole = omega arith

        joined : plus f k (take e first) ≡ plus f k (take i first) ++ plus f (k + i) (mid_of i (e - i) first)
        joined =
            ap (λ (z : ℕ). plus f k (take z first)) (sym whole)
            ∙ ap (plus f k) (take-add i (e - i) first)
            ∙ plus_append f k (take i first) (mid_of i (e - i) first)
            ∙ ap (λ (z : ℕ). plus f k (take i first) ++ plus f (k + z) (mid_of i (e - i) first)) (length-take-le i first so.at)

    -- all have their parts when none that is due has one
    pub parted_end : ((j : ℕ) → i ≤ j → j < length first → f (k + j) ≡ 0) → rows ≡ plus f k first
    parted_end none =
        so.written
        ∙ ap (λ (l : List ℕ). plus f k (take i first) ++ l) (plus_nothing f (k + i) (drop i first) (λ j l. nothing j (omega (arith, length-drop i first))))
        ∙ ap (λ (z : ℕ). plus f k (take i first) ++ plus f (k + z) (drop i first)) (sym (length-take-le i first so.at))
        ∙ sym (plus_append f k (take i first) (drop i first))
        ∙ ap (plus f k) (take-append-drop i first)
      where
        nothing : (j : ℕ) → i + j < length first → f (k + i + j) ≡ 0
        nothing j l = let e : k + i + j ≡ k + (i + j) = omega arith in rw e (none (i + j) (omega arith) l)

-- a part of rows that have room has room
pub mid_room : (rows : List ℕ) → RoomOk rows → (a e : ℕ) → e ≤ length rows → RoomOk (mid_of a (e - a) rows)
mid_room rows ok a e l =
    record {
      most = omega (arith, mid_len a e rows l, ok.most);
      room = λ i h. inside i (omega (arith, mid_len a e rows l));
    }
  where
    inside : (i : ℕ) → i < e - a → get_or (mid_of a (e - a) rows) i 0 ≤ 1000000000000000000
    inside i h = rw (get_or-take (e - a) (drop a rows) i 0 h, get_or-drop a rows i 0) (ok.room (a + i) (omega arith))

pub front_room : (rows : List ℕ) → RoomOk rows → (e : ℕ) → e ≤ length rows → RoomOk (take e rows)
front_room rows ok e l =
    record {
      most = omega (arith, length-take-le e rows l, ok.most);
      room = λ i h. inside i (omega (arith, length-take-le e rows l));
    }
  where
    inside : (i : ℕ) → i < e → get_or (take e rows) i 0 ≤ 1000000000000000000
    inside i h = rw (get_or-take e rows i 0 h) (ok.room i (omega arith))
