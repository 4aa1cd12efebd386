-- The altered list: what stands in each place, and sums and scans over it. Assumes nothing.
use mathlib.Core.Path.{◌≡◌, refl, sym, ap, ◌∙◌}
use mathlib.Core.Bool.{Bool, true, false}
use mathlib.Core.Logic.{◌⊎◌, inl, inr, ⊎_elim}
use mathlib.Core.List.{List, ◌++◌}
use Prim.Native.Nat.{ℕ, zero, suc, ◌+◌, ◌-◌, ◌*◌, ◌/◌, ◌≤◌, ◌<◌}
use native.Mathlib.Nat.{eq-or-lt_of_le, le_of_suc-le-suc}
use native.Mathlib.Omega.{arith}
use borrow.Author.Tests.{lt-ltb, le-ltb}
use lib.ListN.{length, take, drop, length-take, length-drop, length-append}
use lib.Seq.{length-take-le, take-append-le, drop-append-le, take_at, drop_at, take-take, drop-drop, take-add}
use Rattle.laws.specs.Scan.{scan}
use Rattle.laws.specs.Sum.{sum_to}
use Rattle.laws.proofs.Num.{below_or_not}
use Rattle.laws.proofs.Scans.{scan_is, scan_whole}
use Rattle.laws.proofs.Sums.{sum_same}
use Rattle.subarea.specs.Records.{width, records_in, record_at}
use Rattle.laws.specs.Search.{first_bad_of}
use Rattle.refusals.specs.declared.Rule.{Rule}
use Rattle.refusals.specs.Refusals.{charge, stopped, first_of}
use Rattle.laws.proofs.Places.{search_scan}
use Rattle.subarea.specs.Needs.{RecordsOk}
use Rattle.alter.specs.Altering.{altered, old_record}
use Rattle.alter.specs.Needs.{PlaceOk}

-- a part that lies in the front of a list
in_front : (n a w : ℕ) (s : List ℕ) → a + w ≤ n → n ≤ length s → take w (drop a (take n s)) ≡ take w (drop a s)
in_front n a w s l most =
    let e : a + (n - a) ≡ n = omega arith in
    let front : take n s ≡ take a s ++ take (n - a) (drop a s) = sym (ap (λ (z : ℕ). take z s) e) ∙ take-add a (n - a) s in
    ap (λ (z : List ℕ). take w (drop a z)) front
    ∙ ap (take w) (drop_at (take a s) (take (n - a) (drop a s)) a (length-take-le a s (omega arith)))
    ∙ take-take w (n - a) (drop a s) (omega arith)

-- two numbers are the same, or not
pub same_or_not : (a b : ℕ) → (a ≡ b) ⊎ (a ≡ b → ⊥)
same_or_not a b = ⊎_elim (λ (l : a < b). inr (λ e. omega (arith, e, l))) (λ (l : b ≤ a). ⊎_elim (λ (e : b ≡ a). inl (sym e)) (λ (m : b < a). inr (λ e. omega (arith, e, m))) (eq-or-lt_of_le l)) (below_or_not a b)

module _ (s : List ℕ) (k : ℕ) (r : List ℕ) (ok : PlaceOk s k r) where
  -- as long as it was
  pub altered_length : length (altered s k r) ≡ length s
  altered_length =
      simp (length-append, length-take, length-drop) (omega (arith, ok.whole, ok.records.whole, ok.listed, ok.last))

  pub altered_count : records_in (altered s k r) ≡ records_in s
  altered_count = ap (λ (n : ℕ). n / width) altered_length

  pub altered_records : RecordsOk (altered s k r)
  altered_records =
      record {
        whole = omega (arith, altered_length, ok.records.whole);
        least = omega (arith, altered_count, ok.records.least);
        most = omega (arith, altered_count, ok.records.most);
      }

  front_long : length (take (width * (k - 1)) s) ≡ width * (k - 1)
  front_long = length-take-le (width * (k - 1)) s (omega (arith, ok.records.whole, ok.last))

  -- the fresh record in its place
  pub altered_here : record_at (altered s k r) (k - 1) ≡ r
  altered_here =
      ap (take width) (drop_at (take (width * (k - 1)) s) (r ++ drop (width * k) s) (width * (k - 1)) front_long)
      ∙ take_at r (drop (width * k) s) width ok.whole

  -- what stands before it
  before : (i : ℕ) → i < k - 1 → record_at (altered s k r) i ≡ record_at s i
  before i l =
      let n = width * (k - 1) in
      let rest = r ++ drop (width * k) s in
      ap (take width) (drop-append-le (width * i) (take n s) rest (omega (arith, front_long)))
      ∙ take-append-le width (drop (width * i) (take n s)) rest (simp length-drop (omega (arith, front_long)))
      ∙ in_front n (width * i) width s (omega arith) (omega (arith, ok.records.whole, ok.last))

  -- and after it
  after : (i : ℕ) → k - 1 < i → record_at (altered s k r) i ≡ record_at s i
  after i l =
      let n = width * (k - 1) in
      let far : width * i ≡ n + (width + width * (i - k)) = omega (arith, ok.listed) in
      let back : width * k + width * (i - k) ≡ width * i = omega (arith, ok.listed) in
      ap (λ (z : ℕ). take width (drop z (altered s k r))) far
      ∙ ap (take width) (sym (drop-drop (width + width * (i - k)) n (altered s k r)))
      ∙ ap (λ (z : List ℕ). take width (drop (width + width * (i - k)) z)) (drop_at (take n s) (r ++ drop (width * k) s) n front_long)
      ∙ ap (take width) (sym (drop-drop (width * (i - k)) width (r ++ drop (width * k) s)))
      ∙ ap (λ (z : List ℕ). take width (drop (width * (i - k)) z)) (drop_at r (drop (width * k) s) width ok.whole)
      ∙ ap (take width) (drop-drop (width * (i - k)) (width * k) s)
      ∙ ap (λ (z : ℕ). take width (drop z s)) back

  -- every other as it was
  pub altered_other : (i : ℕ) → (i ≡ k - 1 → ⊥) → record_at (altered s k r) i ≡ record_at s i
  altered_other i n =
      ⊎_elim (λ (l : i < k - 1). before i l) (λ (l : k - 1 ≤ i). ⊎_elim (λ (e : k - 1 ≡ i). absurd (n (sym e))) (λ (m : k - 1 < i). after i m) (eq-or-lt_of_le l)) (below_or_not i (k - 1))

  -- a sum over it: the old record's term is taken away, the fresh one's added
  module _ (f : List ℕ → ℕ) where
    upto : (n : ℕ) → n ≤ k - 1 → sum_to (λ i. f (record_at (altered s k r) i)) n ≡ sum_to (λ i. f (record_at s i)) n
    upto n l = sum_same (λ i. f (record_at (altered s k r) i)) (λ i. f (record_at s i)) n (λ i h. ap f (altered_other i (λ e. omega (arith, e, h, l))))

    past : (n : ℕ) → k ≤ n → sum_to (λ i. f (record_at (altered s k r) i)) n + f (old_record s k) ≡ sum_to (λ i. f (record_at s i)) n + f r
    unfolding sum_to
    past zero l = absurd (omega (arith, ok.listed))
    past (suc n) l =
        ⊎_elim
        (λ (e : k ≡ suc n).
        let d : n ≡ k - 1 = omega arith in
        omega (arith, upto n (omega arith), ap f (ap (record_at (altered s k r)) d ∙ altered_here), ap (λ (z : ℕ). f (record_at s z)) d))
        (λ (m : k < suc n). omega (arith, past n (le_of_suc-le-suc m), ap f (altered_other n (λ e. omega (arith, e, m, ok.listed)))))
        (eq-or-lt_of_le l)

    pub sum_altered : sum_to (λ i. f (record_at (altered s k r) i)) (records_in (altered s k r)) + f (old_record s k) ≡ sum_to (λ i. f (record_at s i)) (records_in s) + f r
    sum_altered = rw altered_count (past (records_in s) ok.last)

  -- a test that every record of the list as it stands passes: only the fresh one can fail it
  module _ (test : List ℕ → Bool) (all : (i : ℕ) → i < records_in s → test (record_at s i) ≡ true) where
    other : (i : ℕ) → i < records_in s → (i ≡ k - 1 → ⊥) → test (record_at (altered s k r) i) ≡ true
    other i l n = ap test (altered_other i n) ∙ all i l

    passing : test r ≡ true → scan (λ i. test (record_at (altered s k r) i)) (records_in s) 0 ≡ records_in s
    passing t = scan_whole (λ i. test (record_at (altered s k r) i)) (records_in s) each
      where
        each : (i : ℕ) → i < records_in s → test (record_at (altered s k r) i) ≡ true
        each i l = ⊎_elim (λ (e : i ≡ k - 1). ap (λ (z : ℕ). test (record_at (altered s k r) z)) e ∙ ap test altered_here ∙ t) (λ (n : i ≡ k - 1 → ⊥). other i l n) (same_or_not i (k - 1))

    failing : test r ≡ false → scan (λ i. test (record_at (altered s k r) i)) (records_in s) 0 ≡ k - 1
    failing t =
        scan_is (λ i. test (record_at (altered s k r) i)) (records_in s) (k - 1) (omega (arith, ok.last))
        (λ i l. other i (omega (arith, ok.last)) (λ e. omega (arith, e, l)))
        (λ l. ap test altered_here ∙ t)

    pub only_fresh : (rule : Rule) → first_of rule (first_bad_of (λ i. test (record_at (altered s k r) i)) (records_in (altered s k r))) ≡ charge rule (test r) k
    only_fresh rule = rw (search_scan (λ i. test (record_at (altered s k r) i)) (records_in (altered s k r)), altered_count) (go (test r) refl)
      where
        go : (b : Bool) → test r ≡ b → first_of rule (stopped (scan (λ i. test (record_at (altered s k r) i)) (records_in s) 0) (records_in s)) ≡ charge rule b k
        go true t = rw (passing t, le-ltb (records_in s) (records_in s) (omega arith)) refl
        go false t =
            let e : k - 1 + 1 ≡ k = omega (arith, ok.listed) in
            rw (failing t, lt-ltb (k - 1) (records_in s) (omega (arith, ok.listed, ok.last)), e) refl
