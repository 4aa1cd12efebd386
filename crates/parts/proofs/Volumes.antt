-- Adding the volumes between sums row by row: the invariant of that loop, and how large they are. Assumes nothing.
use mathlib.Core.Path.{◌≡◌, sym, ap, ◌∙◌, subst}
use mathlib.Core.List.{List}
use Prim.Native.Nat.{ℕ, ◌+◌, ◌-◌, ◌*◌, ◌/◌, ◌≤◌, ◌<◌}
use native.Mathlib.Nat.{mul-le-mul_left, div-le_of_le-mul}
use native.Mathlib.Omega.{arith}
use lib.ListN.{length, get_or, set}
use lib.Seq.{set-get_or}
use Rattle.laws.specs.Listed.{plus}
use Rattle.laws.proofs.Num.{div_rises}
use Rattle.laws.proofs.Listed.{Adding, row_due, adding_start, adding_turn, adding_end}
use Rattle.hydrograph.specs.InflowRows.{volume_of}
use Rattle.sums.specs.declared.Numbers.{Numbers}
use Rattle.parts.specs.Needs.{volume_between, SumsOk}

-- the volume of a sum
abbrev pub volume_by : Numbers → ℕ → ℕ
volume_by own sum = volume_of own.area (sum / own.total)

module _ (own : Numbers) (sums : List ℕ) (ok : SumsOk own sums) where
  -- a sum's depth is at most 30,000,000, and its volume 1,089,000 times the area
  pub depth_most : (i : ℕ) → i < length sums → get_or sums i 0 / own.total ≤ 30000000
  depth_most i l = div-le_of_le-mul own.total (omega (arith, ok.limit i l))

  pub volume_most : (i : ℕ) → i < length sums → volume_by own (get_or sums i 0) ≤ 1089000 * own.area
  unfolding volume_of
  volume_most i l = omega (arith, mul-le-mul_left (363 * own.area) (depth_most i l))

  -- a volume never falls from sum to sum
  pub volume_rises : (i : ℕ) → i + 1 < length sums → volume_by own (get_or sums i 0) ≤ volume_by own (get_or sums (i + 1) 0)
  unfolding volume_of
  volume_rises i l =
      omega (arith, mul-le-mul_left (363 * own.area) (div_rises (get_or sums i 0) (get_or sums (i + 1) 0) own.total ok.some (ok.rising i l)))

-- before row i (from 0): the sum before it, its volume, and the rows with what was added so far
pub record Between (own : Numbers) (sums first rows : List ℕ) (sum before i : ℕ) : Type 0 where
  pub last : sum ≡ get_or sums i 0
  pub so_far : before ≡ volume_by own sum
  pub adding : Adding (volume_between own sums) first rows i

module _ (own : Numbers) (sums first : List ℕ) where
  -- where the loop begins
  pub between_start : {sum before : ℕ} → sum ≡ get_or sums 0 0 → before ≡ volume_by own sum → Between own sums first first sum before 0
  between_start e d = record { last = e; so_far = d; adding = adding_start (volume_between own sums) first }

  module _ {rows : List ℕ} {sum before i : ℕ} (so : Between own sums first rows sum before i) (l : i < length first) where
    -- what the row's volume is
    before_is : before ≡ volume_by own (get_or sums (i + 1 - 1) 0)
    before_is =
        let e : i ≡ i + 1 - 1 = omega arith in
        so.so_far ∙ ap (volume_by own) (so.last ∙ ap (λ (z : ℕ). get_or sums z 0) e)

    -- one row more
    pub between_turn : {next through : ℕ} → next ≡ get_or sums (i + 1) 0 → through ≡ volume_by own next
        → Between own sums first (set rows i (get_or rows i 0 + (through - before))) next through (i + 1)
    between_turn {next} {through} e d =
        let own-volume : through ≡ volume_by own (get_or sums (i + 1) 0) = d ∙ ap (volume_by own) e in
        record {
          last = e;
          so_far = d;
          adding = adding_turn (volume_between own sums) first so.adding l (omega (arith, row_due (volume_between own sums) first so.adding, own-volume, before_is));
        }

    -- one whose sum is the one before: nothing is added
    pub between_pass : sum ≡ get_or sums (i + 1) 0 → Between own sums first rows sum before (i + 1)
    between_pass e =
        let none : volume_by own (get_or sums (i + 1) 0) ≡ before = ap (volume_by own) (sym e) ∙ sym so.so_far in
        record {
          last = e;
          so_far = so.so_far;
          adding =
              subst (λ (r : List ℕ). Adding (volume_between own sums) first r (i + 1)) (set-get_or rows i 0)
              (adding_turn (volume_between own sums) first so.adding l (omega (arith, row_due (volume_between own sums) first so.adding, none, before_is)));
        }

  -- where it ends
  pub between_end : {rows : List ℕ} {sum before i : ℕ} → Between own sums first rows sum before i → length first ≤ i → rows ≡ plus (volume_between own sums) 1 first
  between_end so l = adding_end (volume_between own sums) first so.adding l
