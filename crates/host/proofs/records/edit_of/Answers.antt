-- `host::records::edit_of` meets its contract. Assumes nothing.
use mathlib.Core.Path.{sym, ap, ◌∙◌, subst}
use mathlib.Core.List.{List}
use Prim.Native.Nat.{ℕ}
use native.Mathlib.Omega.{arith}
use lib.ListN.{take}
use lib.Seq.{length-take-le}
use Rattle.refusals.specs.Refusals.{told}
use Rattle.edit.specs.Edit.{EditAnswer, edit_refusal_in, edit_values_in}
use Rattle.answers.specs.EditNumbers.{edit_numbers_of, changes_of}
use Rattle.host.specs.Gathered.{handed}
use Rattle.host.proofs.Handing.{used_most}
use Rattle.host.proofs.EditPromise.{EditIs}
use Rattle.host.proofs.records.edit_of.Goals as goal

pub slice_bounds-numbers-end : goal.slice_bounds-numbers-end
slice_bounds-numbers-end c = omega (arith, c.used_by-e.ensures, used_most c.args.n, c.well_formed.0.1.1.0.1.0.1)

pub slice_bounds-run-end : goal.slice_bounds-run-end
slice_bounds-run-end c = sym (length-take-le _ _ (omega (arith, c.used_by-e.ensures, used_most c.args.n, c.well_formed.0.1.1.0.1.0.1)))

pub returns : goal.returns
unfolding handed
returns c =
    let args = c.args in
    let own = c.run-own in
    let put = c.put_edit in
    let whole = subst
    (λ (s : List ℕ). EditIs args.step args.first args.rule args.rain.now args.pond.now args.inflow.now args.outflow.now args.storage.now args.place args.fresh.now s put.result own.new.inflow own.new.outflow own.new.storage put.new.answer put.new.changes)
    (ap (λ (n : ℕ). take n args.flat.numbers) c.used_by-e.ensures)
    (put.ensures.value ∙ ap (λ (z : EditAnswer). (told (edit_refusal_in z)).0) own.ensures.value, (put.ensures.answer_after ∙ ap edit_numbers_of own.ensures.value, (put.ensures.changes_after ∙ ap (λ (z : EditAnswer). changes_of (edit_values_in z)) own.ensures.value, own.ensures.storage_value))) in record { value = whole.0; answer_after = whole.1.0; changes_after = whole.1.1.0; storage_value = whole.1.1.1 }
