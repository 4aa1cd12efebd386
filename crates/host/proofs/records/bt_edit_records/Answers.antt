-- `host::records::bt_edit_records` meets its contract: what an edit of the gathered records promises, one of the list flattened
-- does. Assumes nothing.
use mathlib.Core.Path.{subst}
use lib.ListN.{length}
use Rattle.host.specs.Gathered.{handed}
use Rattle.host.specs.declared.gathering.Flat.{Flat}
use Rattle.host.proofs.EditPromise.{Says, promised}
use Rattle.host.proofs.records.bt_edit_records.Goals as goal

pub returns : goal.returns
returns c =
    let a = c.args in
    let e = c.edit_of.ensures in
    let z = c.edit_of.new in
    let told = promised a.step a.first a.rule a.rain.now a.pond.now a.inflow.now a.outflow.now a.storage.now a.place a.fresh.now c.edit_of.result z.inflow z.outflow z.storage z.answer z.changes a.list.now
    (subst (λ (f : Flat). Says a.step a.first a.rule a.rain.now a.pond.now a.inflow.now a.outflow.now a.storage.now a.place a.fresh.now c.edit_of.result z.inflow z.outflow z.storage z.answer z.changes (handed f (length a.list.now))) c.gather-flat.ensures (e.value, (e.answer_after, (e.changes_after, e.storage_value)))) in
    record { value = told.0; answer_after = told.1.0; changes_after = told.1.1.0; storage_value = told.1.1.1 }
