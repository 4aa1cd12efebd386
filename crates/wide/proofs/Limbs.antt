-- Laws of numbers in limbs, each by induction over the list of limbs. Assumes nothing.
use mathlib.Core.Path.{◌≡◌, refl, sym, ap, ◌∙◌}
use mathlib.Core.List.{List, [], ◌∷◌, ◌++◌}
use Prim.Native.Nat.{ℕ, zero, suc, ◌+◌, ◌-◌, ◌*◌, ◌/◌, ◌%◌, ◌^◌, ◌≤◌, ◌<◌}
use lib.ListN.{length, get_or, take, drop, set, replicate, length-set}
use lib.Pow.{pow-add}
use lib.Seq.{drop-set-lt, drop-cons}
use native.Mathlib.Nat.{one-mul, zero-mul, suc-mul, div-add-mod', pow-zero, pow-suc, mul-le-mul, mul-le-mul_left, pow-le-pow_right, add-zero, mul-one, mul_assoc, one-le-pow, lt_of_le_of_lt}
use native.Mathlib.Numerals.{add-one}
use native.Mathlib.Omega.{arith}
use Rattle.laws.proofs.Fill.{drop_one, drop_none, fill_turn, fill_end}
use Rattle.wide.specs.Limbs.{value, limbs, room, Small, Wide, Holds}

-- the limbs after the first are small too
small_rest : {x : ℕ} {xs : List ℕ} → Small (x ∷ xs) → Small xs
small_rest s = record { each = λ i. s.each (suc i) }

-- limbs of which one is set to a small one stay small
pub small_set : (l : List ℕ) (i v : ℕ) → v < 4294967296 → Small l → Small (set l i v)
small_set l i v m s = record { each = λ j. at l i j s }
  where
    at : (l : List ℕ) (i j : ℕ) → Small l → get_or (set l i v) j 0 < 4294967296
    at [] i j s = s.each j
    at (x ∷ xs) zero zero s = m
    at (x ∷ xs) zero (suc j) s = s.each (suc j)
    at (x ∷ xs) (suc i) zero s = s.each 0
    at (x ∷ xs) (suc i) (suc j) s = at xs i j (small_rest s)

-- n small limbs are a number of 32 n bits
pub small_value : (l : List ℕ) → Small l → value l < 4294967296 ^ length l
unfolding value
small_value [] s = omega arith
small_value (x ∷ xs) s = omega (arith, s.each 0, small_value xs (small_rest s), pow-suc 4294967296 (length xs))

-- a wide number is below 2^384
pub wide_value : {l : List ℕ} → Wide l → value l < room
unfolding room
wide_value {l} w = rw w.long at (small_value l w.small)

-- limbs of the same number are the same
value_one : (a b : List ℕ) → length a ≡ length b → Small a → Small b → value a ≡ value b → a ≡ b
unfolding value
value_one [] [] e s t v = refl
value_one [] (y ∷ ys) e s t v = absurd (omega arith)
value_one (x ∷ xs) [] e s t v = absurd (omega arith)
value_one (x ∷ xs) (y ∷ ys) e s t v =
    let first : x ≡ y = omega (arith, s.each 0, t.each 0) in
    rw (first, value_one xs ys (omega arith) (small_rest s) (small_rest t) (omega (arith, s.each 0, t.each 0)))

pub holds_one : {a b : List ℕ} {n : ℕ} → Holds a n → Holds b n → a ≡ b
holds_one {a} {b} p q = value_one a b (p.wide.long ∙ sym q.wide.long) p.wide.small q.wide.small (p.is ∙ sym q.is)

-- limbs times a factor, with a carry into the first
unfoldable pub scaled : ℕ → ℕ → List ℕ → List ℕ
scaled f c [] = []
scaled f c (x ∷ xs) = (x * f + c) % 4294967296 ∷ scaled f ((x * f + c) / 4294967296) xs

-- they are the product, where as many limbs can hold it
pub scaled_value : (f c : ℕ) (l : List ℕ) → value l * f + c < 4294967296 ^ length l → value (scaled f c l) ≡ value l * f + c
unfolding value scaled
scaled_value f c [] h = omega arith
scaled_value f c (x ∷ xs) h =
    omega (arith, scaled_value f ((x * f + c) / 4294967296) xs (omega (arith, pow-suc 4294967296 (length xs))))

-- a limb times a factor, with a carry, is below 2^64
pub limb_most : {x f c : ℕ} → x < 4294967296 → f < 4294967296 → c < 4294967296 → x * f + c < 4294967296 * 4294967296
limb_most {x} {f} {c} a b d =
    let p : x ≤ 4294967295 = omega arith in
    let q : f ≤ 4294967295 = omega arith in
    omega (arith, mul-le-mul p q)

-- The invariant of a loop that multiplies, at limb i: the limbs written so far with those still due are all of the product's. Each law below answers one of its needs
pub record Scaling (f : ℕ) (all w : List ℕ) (carry i : ℕ) : Type 0 where
  pub at : i ≤ limbs
  pub wide : Wide w
  pub small : carry < 4294967296
  pub due : take i w ++ scaled f carry (drop i w) ≡ scaled f 0 all

module _ (f : ℕ) (all : List ℕ) where
  -- where the loop begins
  pub scaling_start : Wide all → Scaling f all all 0 0
  scaling_start h = record { at = omega arith; wide = h; small = omega arith; due = refl }

  -- after a turn
  pub scaling_turn : {w : List ℕ} {carry i : ℕ} → f < 4294967296 → Scaling f all w carry i → i < limbs
      → Scaling f all (set w i ((get_or w i 0 * f + carry) % 4294967296)) ((get_or w i 0 * f + carry) / 4294967296) (i + 1)
  unfolding scaled
  scaling_turn {w} {carry} {i} most r l =
      let p = get_or w i 0 * f + carry in
      let here : i < length w = omega (arith, r.wide.long) in
      record {
        at = omega arith;
        wide = record { long = simp length-set r.wide.long; small = small_set w i (p % 4294967296) (omega arith) r.wide.small };
        small = omega (arith, limb_most (r.wide.small.each i) most r.small);
        due = rw (drop-set-lt (i + 1) w i (p % 4294967296) (omega arith)) (fill_turn w i (p % 4294967296) _ _ here (rw (drop_one 0 w i here) at r.due));
      }

  -- where the loop ends
  pub scaling_end : {w : List ℕ} {carry i : ℕ} → Wide all → value all * f < room → Scaling f all w carry i → limbs ≤ i → Holds w (value all * f)
  unfolding room scaled
  scaling_end {w} {carry} {i} long fits r l =
      let past : length w ≤ i = omega (arith, r.wide.long) in
      let whole : w ≡ scaled f 0 all = fill_end w i (scaled f 0 all) past (rw (drop_none w i past) at r.due) in
      record { wide = r.wide; is = ap value whole ∙ (scaled_value f 0 all (rw (add-zero, long.long) fits) ∙ add-zero _) }

-- the highest limb in which two numbers differ decides between them
pub limb_decides : (a b : List ℕ) (i : ℕ) → i < length a → i < length b → Small a → drop (suc i) a ≡ drop (suc i) b → get_or a i 0 < get_or b i 0 → value a < value b
unfolding value
limb_decides [] b i h k s e l = absurd (omega arith)
limb_decides (x ∷ xs) [] i h k s e l = absurd (omega arith)
limb_decides (x ∷ xs) (y ∷ ys) zero h k s e l = rw e (omega arith)
limb_decides (x ∷ xs) (y ∷ ys) (suc i) h k s e l =
    omega (arith, s.each 0, limb_decides xs ys i (omega arith) (omega arith) (small_rest s) e l)

-- The invariant of a loop that compares, from the highest limb down to limb i: from it on the two are the same. Each law below answers one of its needs
pub record Alike (a b : List ℕ) (i : ℕ) : Type 0 where
  pub at : i ≤ limbs
  pub same : drop i a ≡ drop i b

module _ {a b : List ℕ} (wa : Wide a) (wb : Wide b) where
  -- where the loop begins
  pub alike_start : Alike a b limbs
  alike_start = record { at = omega arith; same = drop_none a limbs (omega (arith, wa.long)) ∙ sym (drop_none b limbs (omega (arith, wb.long))) }

  -- at a limb in which they differ
  pub alike_less : {i : ℕ} → Alike a b i → 0 < i → get_or a (i - 1) 0 < get_or b (i - 1) 0 → value a < value b
  alike_less {i} r p l =
      let e : i ≡ suc (i - 1) = omega arith in
      limb_decides a b (i - 1) (omega (arith, wa.long)) (omega (arith, wb.long)) wa.small (rw e at r.same) l

  -- after a turn at a limb in which they do not
  pub alike_down : {i : ℕ} → Alike a b i → 0 < i → get_or a (i - 1) 0 ≡ get_or b (i - 1) 0 → Alike a b (i - 1)
  alike_down {i} r p f =
      let e : i ≡ suc (i - 1) = omega arith in
      let s : drop (suc (i - 1)) a ≡ drop (suc (i - 1)) b = rw e at r.same in
      record {
        at = omega (arith, r.at);
        same = rw (drop-cons a (i - 1) 0 (omega (arith, wa.long)), drop-cons b (i - 1) 0 (omega (arith, wb.long)), s, f);
      }

-- seen the other way round
pub alike_back : {a b : List ℕ} {i : ℕ} → Alike a b i → Alike b a i
alike_back r = record { at = r.at; same = sym r.same }

-- where the loop ends
pub alike_end : {a b : List ℕ} → Alike a b 0 → value a ≡ value b
alike_end r = ap value r.same

-- a small limb before zeros
pub small_first : {x : ℕ} (n : ℕ) → x < 4294967296 → Small (x ∷ replicate n 0)
small_first n h = record { each = λ i. at n i h }
  where
    at : {x : ℕ} (n i : ℕ) → x < 4294967296 → get_or (x ∷ replicate n 0) i 0 < 4294967296
    at n zero h = h
    at zero (suc i) h = omega arith
    at (suc n) (suc i) h = at n i (omega arith)

-- one factor more
pub power_more : (v x f k : ℕ) → x ≡ v * f ^ k → x * f ≡ v * f ^ (k + 1)
power_more v x f k e = rw (e, add-one, pow-suc) (mul_assoc v (f ^ k) f)

-- it fits where all of them do
pub power_fits : (v x f : ℕ) {k n : ℕ} → 1 ≤ f → k < n → x ≡ v * f ^ k → v * f ^ n < room → x * f < room
power_fits v x f {k} {n} p l e h =
    let next : k + 1 ≤ n = omega (arith, l) in
    rw (power_more v x f k e) (lt_of_le_of_lt (mul-le-mul_left v (pow-le-pow_right p next)) h)

-- what fits with a further power fits without it
pub without_fits : (x f k : ℕ) → 1 ≤ f → x * f ^ k < room → x < room
without_fits x f k p h = lt_of_le_of_lt (rw mul-one at (mul-le-mul_left x (one-le-pow k f p))) h

-- a second power is a square
pub squared : (f : ℕ) → f ^ 2 ≡ f * f
squared f = rw (pow-suc f 1, pow-suc f 0, pow-zero, one-mul)

-- a power of a square
pub power_square : (f h : ℕ) → (f * f) ^ h ≡ f ^ (h * 2)
power_square f zero = simp (pow-zero, zero-mul)
power_square f (suc h) = rw (pow-suc, power_square f h, suc-mul, pow-add f (h * 2) 2, squared)

-- a power by its square
pub power_halved : (v f k : ℕ) → v * (f * f) ^ (k / 2) * f ^ (k % 2) ≡ v * f ^ k
power_halved v f k = rw (mul_assoc, power_square, ← pow-add f (k / 2 * 2) (k % 2), div-add-mod')

-- what fits as a whole fits by its squares
pub halved_fits : (v f k : ℕ) → 1 ≤ f → v * f ^ k < room → v * (f * f) ^ (k / 2) < room
halved_fits v f k p h = without_fits (v * (f * f) ^ (k / 2)) f (k % 2) p (rw (power_halved v f k) h)
