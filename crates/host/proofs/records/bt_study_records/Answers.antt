-- `host::records::bt_study_records` meets its contract: what a study of the gathered records promises, one of the list flattened
-- does. Assumes nothing.
use mathlib.Core.Path.{subst}
use lib.ListN.{length}
use Rattle.host.specs.Gathered.{handed}
use Rattle.host.specs.declared.gathering.Flat.{Flat}
use Rattle.host.proofs.StudyPromise.{Says, promised}
use Rattle.host.proofs.records.bt_study_records.Goals as goal

pub returns : goal.returns
returns c =
    let a = c.args in
    let e = c.study_of.ensures in
    let z = c.study_of.new in
    let told = promised a.step a.first a.rule a.rain.now a.pond.now a.inflow.now a.outflow.now a.storage.now c.study_of.result z.inflow z.outflow z.storage z.answer a.list.now
    (subst (λ (f : Flat). Says a.step a.first a.rule a.rain.now a.pond.now a.inflow.now a.outflow.now a.storage.now c.study_of.result z.inflow z.outflow z.storage z.answer (handed f (length a.list.now))) c.gather-flat.ensures (e.value, (e.answer_after, e.storage_value))) in
    record { value = told.0; answer_after = told.1.0; storage_value = told.1.1 }
