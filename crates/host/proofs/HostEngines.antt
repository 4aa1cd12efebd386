-- Q-6 as a host has it: a call of `bt_textbook` beside one of `bt_inflow`, lent the same. Assumes nothing.
use mathlib.Core.Path.{sym, ap, ◌∙◌}
use Rattle.refusals.specs.Refusals.{Line, told}
use Rattle.laws.proofs.OneAnswer.{SameAnswersAnd}
use Rattle.engines.proofs.EnginesAgree.{engines_agree}
use Rattle.answers.specs.InflowNumbers.{refusal_numbers}
use Rattle.host.proofs.bt_inflow.Kinds as bt-inflow-kinds
use Rattle.host.proofs.bt_inflow.Reads as bt-inflow-reads
use Rattle.host.proofs.bt_textbook.Reads as bt-textbook-reads
use Rattle.host.proofs.Answers.{inflow_left}

-- the promises of both allow one number returned, one inflow list and one array afterwards
pub host_engines_agree : SameAnswersAnd bt-inflow-kinds.ps bt-inflow-kinds.r inflow_left bt-inflow-reads.Post bt-textbook-reads.Post
host_engines_agree κs args a b s t p q =
    let same = engines_agree _ _ in
    let number = ap (λ (v : Line). (told v).0) same.answers in
    let numbers = ap refusal_numbers same.answers in
    (p.0 ∙ sym number ∙ sym q.0, λ i. ((p.1.1 ∙ sym same.rows ∙ sym q.1.1) i, (p.1.0 ∙ sym numbers ∙ sym q.1.0) i))
