-- `parts::add_far` meets its contract. Assumes nothing.
use mathlib.Core.Path.{◌≡◌, ap, ◌∙◌}
use mathlib.Core.List.{List}
use Prim.Native.Nat.{ℕ, ◌+◌, ◌-◌, ◌≤◌}
use native.Mathlib.Omega.{arith}
use lib.ListN.{length, take, drop}
use lib.Seq.{take_at, length-take-le}
use Rattle.laws.specs.Limits.{most_rows}
use Rattle.laws.specs.Listed.{rows_from, plus}
use Rattle.laws.proofs.Fronts.{front_has}
use Rattle.laws.proofs.Listed.{rows_length}
use Rattle.hydrograph.specs.InflowRows.{weights}
use Rattle.hydrograph.specs.Needs.{most_depth, Below}
use Rattle.sums.specs.Needs.{sum_in}
use Rattle.parts.specs.Needs.{volume_between, SumsOk}
use Rattle.parts.proofs.Through.{sum_at, depths, depths_long, depths_below, far_is, sums_ok, between_parts}
use Rattle.parts.proofs.add_far.Goals as goal
use Rattle.parts.proofs.add_far.Goals.{After-far_sums, After-fill_depths, Start}

-- the function's entry, once the depths are filled in and once the sums are
abbrev before_depths : After-fill_depths → Start
before_depths c = (goal.at.After-fill_depths c).Start

abbrev before_sums : After-far_sums → Start
before_sums c = before_depths (goal.at.After-far_sums c).After-fill_depths

-- how many depths, and how many sums
abbrev end : Start → ℕ
end s = s.args.lead + length s.args.rows.now

abbrev n : Start → ℕ
n s = length s.args.rows.now + 1

-- the depths and the sums that are asked for
abbrev asked : Start → List ℕ
asked s = depths s.args.step s.args.rain.now s.args.own s.args.from (end s)

abbrev due : Start → List ℕ
due s = rows_from (sum_at s.args.step s.args.rain.now s.args.own) (s.args.from + s.args.lead) (n s)

asked_long : (s : Start) → length (asked s) ≡ end s
asked_long s = depths_long s.args.step s.args.rain.now s.args.own s.args.from (end s)

due_long : (s : Start) → length (due s) ≡ n s
due_long s = rows_length (sum_at s.args.step s.args.rain.now s.args.own) (s.args.from + s.args.lead) (n s)

-- the depths stand in the front of the first list
filled : (c : After-fill_depths) → c.fill_depths.new.list ≡ asked (before_depths c)
filled c =
    let s = before_depths c in
    c.fill_depths.ensures ∙ ap (depths s.args.step s.args.rain.now s.args.own s.args.from) (length-take-le (end s) s.args.q.now s.requires.step_bound.1.0)

filled_long : (c : After-fill_depths) → length c.fill_depths.new.list ≡ end (before_depths c)
filled_long c = ap length (filled c) ∙ asked_long (before_depths c)

-- the sums stand in the front of the second
summed : (c : After-far_sums) → c.far_sums.new.sums ≡ due (before_sums c)
summed c =
    let s = before_depths (goal.at.After-far_sums c).After-fill_depths in
    let D = s.args.step in
    let own = s.args.own in
    let w = weights own.peak D in
    c.far_sums.ensures
    ∙ ap (λ (l : List ℕ). rows_from (sum_in D own l w) (s.args.lead - 1) (length (take (n s) s.args.sums.now))) (take_at c.fill_depths.new.list (drop (end s) s.args.q.now) (end s) (filled_long (goal.at.After-far_sums c).After-fill_depths) ∙ filled (goal.at.After-far_sums c).After-fill_depths)
    ∙ ap (rows_from (sum_in D own (asked s) w) (s.args.lead - 1)) (length-take-le (n s) s.args.sums.now s.requires.step_bound.1.1)
    ∙ far_is D s.args.rain.now own s.requires.numbers_ok.0 s.requires.numbers_ok.1.0 s.args.from (end s) s.args.lead (n s) (omega (arith, s.requires.step_bound.0)) (omega (arith, s.requires.step_bound.0)) (omega arith)

summed_long : (c : After-far_sums) → length c.far_sums.new.sums ≡ n (before_sums c)
summed_long c = ap length (summed c) ∙ due_long (before_sums c)

pub far_sums-requires : goal.far_sums-requires
far_sums-requires c =
    let s = before_depths (goal.at.far_sums-requires c).After-fill_depths in
    let sums = length-take-le (n s) s.args.sums.now s.requires.step_bound.1.1 in
    let in_List =
    front_has (λ (z : List ℕ). s.args.lead + length (take (n s) s.args.sums.now) ≤ length z + 1) (end s) c.fill_depths.new.list (drop (end s) s.args.q.now) (asked s) (filled_long (goal.at.far_sums-requires c).After-fill_depths) (filled (goal.at.far_sums-requires c).After-fill_depths) (omega (arith, sums, asked_long s)) in
    let below = depths_below s.args.step s.args.rain.now s.args.own s.requires.numbers_ok.0 s.requires.numbers_ok.1.0 s.args.from (end s) in record { numbers_ok = (s.requires.numbers_ok.0, (s.requires.step_bound.0, (omega (arith, s.requires.numbers_ok.1.1.1), (omega (arith, sums, s.requires.numbers_ok.1.1.1, s.requires.step_bound.0), in_List)))); below = front_has (λ (z : List ℕ). Below z (length z) most_depth × (length z ≤ most_rows)) (end s) _ _ _ (filled_long (goal.at.far_sums-requires c).After-fill_depths) (filled (goal.at.far_sums-requires c).After-fill_depths) (below, omega (arith, asked_long s, s.requires.numbers_ok.1.1.1)) }

pub add_volumes-requires : goal.add_volumes-requires
add_volumes-requires c =
    let s = before_sums (goal.at.add_volumes-requires c).After-far_sums in
    let ok = sums_ok s.args.step s.args.rain.now s.args.own s.requires.numbers_ok.0 s.requires.numbers_ok.1.0 (s.args.from + s.args.lead) (n s) in
    (front_has (λ (z : List ℕ). SumsOk s.args.own z) (n s) _ _ _ (summed_long (goal.at.add_volumes-requires c).After-far_sums) (summed (goal.at.add_volumes-requires c).After-far_sums) ok, (s.requires.numbers_ok.1.1.0, front_has (λ (z : List ℕ). length z ≡ n s) (n s) _ _ _ (summed_long (goal.at.add_volumes-requires c).After-far_sums) (summed (goal.at.add_volumes-requires c).After-far_sums) (due_long s)))

pub returns : goal.returns
returns c =
    let s = before_sums (goal.at.returns c).After-far_sums in
    c.add_volumes.ensures
    ∙ ap (λ (l : List ℕ). plus (volume_between s.args.own l) 1 s.args.rows.now) (take_at c.far_sums.new.sums (drop (n s) s.args.sums.now) (n s) (summed_long (goal.at.returns c).After-far_sums) ∙ summed (goal.at.returns c).After-far_sums)
    ∙ between_parts s.args.step s.args.rain.now s.args.own s.requires.numbers_ok.0 s.requires.numbers_ok.1.0 (s.args.from + s.args.lead) s.args.rows.now
