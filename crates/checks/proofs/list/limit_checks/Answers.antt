-- `checks::list::limit_checks` meets its contract. Assumes nothing.
use Rattle.std.proofs.Common.{rules, ◌≡◌, ap, ◌∙◌, ℕ, Bool, List}
use Rattle.std.specs.Prelude.{Option, not, position}
use Rattle.laws.specs.Search.{first_bad_of}
use Rattle.subarea.specs.Records.{records_in, record_at, patches_pass, segments_pass}
use Rattle.subarea.proofs.Subareas.{listed, first_record}
use Rattle.checks.proofs.list.limit_checks.Goals as goal

-- what a search of the list of records finds
found : (good : List ℕ → Bool) (s : List ℕ) {list : List (List ℕ)} {o : Option ℕ} → list ≡ listed s → o ≡ position (λ r. not (good r)) list
    → o ≡ first_bad_of (λ i. good (record_at s i)) (records_in s)
found good s e f = f ∙ ap (position (λ r. not (good r))) e ∙ first_record good s

pub returns-in_err-refused_at : goal.returns-in_err-refused_at
returns-in_err-refused_at c =
    let patched = found patches_pass c.args.subareas.now c.records-records.ensures c.first_patches.ensures in
    search (rules, patched)

pub returns : goal.returns
returns c =
    let s = c.args.subareas.now in
    let patched = found patches_pass s c.records-records.ensures c.first_patches.ensures in
    let routed = found (segments_pass c.args.rule) s c.records-records.ensures c.first_segments.ensures in
    search (rules, patched, routed)
