-- Once the list as it stands has passed 6 to 11, only the fresh record can fail 6, 7, 9, 10 or 11 on the altered list, and 8 is the total less the old area plus the new. Assumes nothing.
use mathlib.Core.Path.{◌≡◌, refl, ap}
use mathlib.Core.List.{List, [], ◌∷◌, map}
use Prim.Native.Nat.{ℕ, ◌-◌, ◌≤◌, ◌<◌}
use native.Mathlib.Omega.{arith}
use Rattle.laws.proofs.Sums.{sum_term}
use Rattle.laws.specs.Limits.{most_area}
use Rattle.subarea.specs.declared.Setup.{Setup}
use Rattle.subarea.specs.Records.{records_in, record_at, area_of}
use Rattle.checks.specs.Order.{ListTest, each, total, all_area, over_list, list_tests, list_lines}
use Rattle.refusals.specs.Refusals.{none, unless, AllPass}
use Rattle.checks.specs.Needs.{StepOk, RecordOk}
use Rattle.checks.proofs.Passed.{each_passes}
use Rattle.checks.proofs.Ready.{list_ok}
use Rattle.alter.specs.Altering.{altered, old_record}
use Rattle.alter.specs.Needs.{altered_area, over_fresh, fresh_lines, PlaceOk}
use Rattle.alter.proofs.Places.{sum_altered, only_fresh, altered_here, altered_count, altered_records}

module _ (s : List ℕ) (k : ℕ) (r : List ℕ) (ok : PlaceOk s k r) where
  -- the old record's area is in the total
  pub old_area : area_of (old_record s k) ≤ all_area s
  old_area = sum_term (λ i. area_of (record_at s i)) (k - 1) (records_in s) (omega (arith, ok.listed, ok.last))

  -- the area of the altered list
  pub area_altered : all_area (altered s k r) ≡ altered_area s k r
  area_altered = omega (arith, sum_altered s k r ok area_of, old_area)

  -- one test
  one_fresh : (t : ListTest) → over_list s t ≡ none → over_list (altered s k r) t ≡ over_fresh s k r t
  one_fresh (each rule good) e = only_fresh s k r ok good (each_passes s rule good e) rule
  one_fresh (total rule good) e = ap (λ (a : ℕ). unless rule (good a)) area_altered

  -- any of them
  all_fresh : (ts : List ListTest) → AllPass (map (over_list s) ts) → map (over_list (altered s k r)) ts ≡ map (over_fresh s k r) ts
  all_fresh [] p = refl
  all_fresh (t ∷ ts) p = rw (one_fresh t p.0, all_fresh ts p.1) refl

  -- 6 to 11
  pub altered_lines : (g : Setup) → AllPass (list_lines g s) → list_lines g (altered s k r) ≡ fresh_lines g s k r
  altered_lines g p = all_fresh (list_tests g) p

  -- what the passing of the altered list leaves of the fresh record
  pub fresh_ok : (g : Setup) → StepOk g.step → AllPass (list_lines g (altered s k r)) → RecordOk g r × (area_of r ≤ most_area)
  fresh_ok g step p =
      let all = altered s k r in
      let list = list_ok g all (altered_records s k r ok) step p in
      let here : k - 1 < records_in all = omega (arith, altered_count s k r ok, ok.listed, ok.last) in
      (rw (altered_here s k r ok) at (list.each (k - 1) here), omega (arith, list.area, ap area_of (altered_here s k r ok), sum_term (λ i. area_of (record_at all i)) (k - 1) (records_in all) here))
