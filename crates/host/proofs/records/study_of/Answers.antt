-- `host::records::study_of` meets its contract. Assumes nothing.
use mathlib.Core.Path.{sym, ap, ◌∙◌, subst}
use mathlib.Core.List.{List}
use Prim.Native.Nat.{ℕ}
use native.Mathlib.Omega.{arith}
use lib.ListN.{take}
use lib.Seq.{length-take-le}
use Rattle.refusals.specs.Refusals.{told}
use Rattle.study.specs.Study.{StudyAnswer, study_refusal_in}
use Rattle.answers.specs.StudyNumbers.{study_numbers_of}
use Rattle.host.specs.Gathered.{handed}
use Rattle.host.proofs.Handing.{used_most}
use Rattle.host.proofs.StudyPromise.{StudyIs}
use Rattle.host.proofs.records.study_of.Goals as goal

pub slice_bounds-numbers-end : goal.slice_bounds-numbers-end
slice_bounds-numbers-end c = omega (arith, c.used_by-e.ensures, used_most c.args.n, c.well_formed.0.1.1.0.1.0.1)

pub slice_bounds-run-end : goal.slice_bounds-run-end
slice_bounds-run-end c = sym (length-take-le _ _ (omega (arith, c.used_by-e.ensures, used_most c.args.n, c.well_formed.0.1.1.0.1.0.1)))

pub returns : goal.returns
unfolding handed
returns c =
    let args = c.args in
    let own = c.run-own in
    let put = c.put_study in
    let whole = subst
    (λ (s : List ℕ). StudyIs args.step args.first args.rule args.rain.now args.pond.now args.inflow.now args.outflow.now args.storage.now s put.result own.new.inflow own.new.outflow own.new.storage put.new.answer)
    (ap (λ (n : ℕ). take n args.flat.numbers) c.used_by-e.ensures)
    (put.ensures.value ∙ ap (λ (z : StudyAnswer). (told (study_refusal_in z)).0) own.ensures.value, (put.ensures.answer_after ∙ ap study_numbers_of own.ensures.value, own.ensures.storage_value)) in record { value = whole.0; answer_after = whole.1.0; storage_value = whole.1.1 }
